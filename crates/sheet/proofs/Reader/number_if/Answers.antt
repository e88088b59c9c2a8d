-- `Reader::number_if` meets its contract: a number, and then the test of it.
use native.Mathlib.Omega.{arith}
use mathlib.Core.Path.{sym, ◌∙◌}
use borrow.Author.Rules.{rules}
use Rattle.sheet.proofs.Tests.{if_not, if_passed, if_failed}
use Rattle.sheet.proofs.Reader.number_if.Goals as goal

pub returns-in_err-n : goal.returns-in_err-n
returns-in_err-n g c = λ t h. if_not t c.in_err-n.ensures c.from_residual.ensures

pub returns-then-test : goal.returns-then-test
returns-then-test g c = λ t h. if_passed t c.in_ok-n.ensures (sym (h _ _ (search rules) c.test.ensures) ∙ c.if-test.true)

pub returns : goal.returns
returns g c = λ t h. if_failed t c.in_ok-n.ensures (sym (h _ _ (omega arith) c.test.ensures) ∙ c.if-test.false)
