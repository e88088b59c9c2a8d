-- `sets::Sets::opened_at` meets its contract: the definition's tests are the code's, and each column is opened.
use Rattle.std.proofs.Common.{rules}
use borrow.Author.Tests.{tests}
use Rattle.sets.specs.Stored.{opened_sets}
use Rattle.sets.proofs.Sets.opened_at.Goals as goal

pub returns-then-at-ge-KEYS : goal.returns-then-at-ge-KEYS
unfolding opened_sets
returns-then-at-ge-KEYS c = search (rules, tests)

pub returns : goal.returns
unfolding opened_sets
returns c = search (rules, tests)
