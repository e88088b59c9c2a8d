-- `columns::put_rule` meets its contract: the dashes and the end of the line, or nothing.
use Prim.Native.Nat.{ℕ}
use mathlib.Core.Path.{ap}
use mathlib.Core.List.{[], ◌∷◌, ◌++◌}
use lib.ListN.{replicate}
use borrow.Author.Tests.{not-true, not-false}
use Rattle.out.proofs.Pages.{writes_none, writes_as, writes_then}
use Rattle.columns.specs.Columns.{rule_text}
use Rattle.columns.proofs.put_rule.Goals as goal

pub returns-then-not-form : goal.returns-then-not-form
unfolding rule_text
returns-then-not-form c =
    writes_as
    (rw (not-true _ c.if-not-form.true) (ap (λ (k : ℕ). replicate k 45 ++ 10 ∷ []) c.line_width.ensures))
    (writes_then c.put_same.ensures c.put.ensures)

pub returns-else-not-form : goal.returns-else-not-form
unfolding rule_text
returns-else-not-form c = writes_as (rw (not-false _ c.if-not-form.false)) (writes_none _)
