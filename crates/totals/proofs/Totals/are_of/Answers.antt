-- `totals::Totals::are_of` meets its contract: the figures one by one.
use mathlib.Core.Bool.{and_assoc}
use Rattle.totals.specs.Kept.{same_totals}
use Rattle.totals.proofs.Totals.are_of.Goals as goal

pub returns : goal.returns
unfolding same_totals
returns c = rw (← c.added_up-sums.ensures) (simp and_assoc c.eq.ensures)
