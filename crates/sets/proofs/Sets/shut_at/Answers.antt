-- `sets::Sets::shut_at` meets its contract: the definition's tests are the code's, and each column is shut.
use Rattle.std.proofs.Common.{rules}
use borrow.Author.Tests.{tests}
use Rattle.sets.specs.Stored.{shut_sets}
use Rattle.sets.proofs.Sets.shut_at.Goals as goal

pub returns-then-at-ge-KEYS : goal.returns-then-at-ge-KEYS
unfolding shut_sets
returns-then-at-ge-KEYS c = search (rules, tests)

pub returns : goal.returns
unfolding shut_sets
returns c = search (rules, tests)
