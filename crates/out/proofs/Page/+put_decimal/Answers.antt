use mathlib.Core.Path.{sym}
use borrow.Author.Rules.{rules}
use Rattle.out.proofs.Pages.{writes_as, writes_then}
use Rattle.out.proofs.Digits.{decimal_one, decimal_last}
use Rattle.out.proofs.Page.+put_decimal.Goals as goal

pub returns-then-n-lt10 : goal.returns-then-n-lt10
returns-then-n-lt10 t c = writes_as (sym (decimal_one _ c.if-n-lt10.true)) c.put.ensures

pub returns-else-n-lt10 : goal.returns-else-n-lt10
returns-else-n-lt10 t c =
    writes_as (sym (decimal_last c.args.n c.if-n-lt10.false (search rules))) (writes_then c.put_decimal.ensures c.put-else-n-lt10.ensures)
