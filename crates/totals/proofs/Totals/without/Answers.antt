-- `totals::Totals::without` meets its contract.
use Rattle.std.proofs.Common.{rules}
use Rattle.totals.specs.Kept.{minus, without_set}
use Rattle.totals.proofs.Totals.without.Goals as goal

pub returns : goal.returns
unfolding minus without_set
returns c = search rules
