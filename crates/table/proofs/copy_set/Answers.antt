-- `table::copy_set` meets its contract, test by test.
use Rattle.std.proofs.Common.{rules}
use borrow.Author.Tests.{eq-eqb, tests}
use Rattle.rules.specs.Outcomes.{overwritten}
use Rattle.table.specs.Answers.{copied_as, copy_stored}
use Rattle.table.proofs.copy_set.Goals as goal

pub returns-then-count-eq0 : goal.returns-then-count-eq0
unfolding copy_stored copied_as
returns-then-count-eq0 c = rw (eq-eqb _ _ c.if-count-eq0.true)

pub returns-then-numbers-count : goal.returns-then-numbers-count
unfolding copy_stored copied_as
returns-then-numbers-count c = search (rules, tests)

pub returns : goal.returns
unfolding copy_stored copied_as overwritten
returns c = search (rules, tests)
