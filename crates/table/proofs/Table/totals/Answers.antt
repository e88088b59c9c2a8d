-- `table::Table::totals` meets its contract: a table that meets the rules stores the sums.
use Rattle.std.proofs.Common.{Ok}
use Rattle.table.proofs.GivenLaws.{given_right}
use Rattle.table.proofs.Table.totals.Goals as goal

pub returns : goal.returns
returns c = given_right c.meets.ensures c.if-not-meets.false (λ d m e i. Ok (e i).totals)
