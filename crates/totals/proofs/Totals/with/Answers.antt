-- `totals::Totals::with` meets its contract.
use Rattle.std.proofs.Common.{rules}
use Rattle.totals.specs.Kept.{raised, plus, with_set}
use Rattle.totals.proofs.Totals.with.Goals as goal

pub returns : goal.returns
unfolding raised plus with_set
returns c = search rules
