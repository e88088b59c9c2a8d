-- `totals::Totals::of_set` meets its contract.
use Rattle.std.proofs.Common.{rules}
use borrow.Author.Tests.{tests}
use Rattle.rules.specs.Block.{bit}
use Rattle.totals.specs.Kept.{of_set}
use Rattle.totals.proofs.Totals.of_set.Goals as goal

pub returns-then-len-eq0 : goal.returns-then-len-eq0
unfolding of_set
returns-then-len-eq0 c = search (rules, tests)

pub returns : goal.returns
unfolding of_set bit
returns c = search (rules, tests)
