-- `columns::put_end` meets its contract: the end of the line, after the number and the blanks after it where rows are numbered.
use Prim.Native.Nat.{ℕ, ◌-◌}
use native.Mathlib.Omega.{arith}
use mathlib.Core.Path.{◌≡◌, ap, ◌∙◌}
use mathlib.Core.Bool.{cond}
use mathlib.Core.List.{[], ◌++◌}
use lib.ListN.{length, replicate}
use Rattle.out.specs.Text.{decimal}
use Rattle.out.proofs.Pages.{writes_as, writes_then}
use Rattle.columns.specs.Columns.{number_if, end_text, number_text}
use Rattle.columns.proofs.Lines.{filled_parts}
use Rattle.columns.proofs.put_end.Goals as goal
use Rattle.columns.proofs.put_end.Goals.{then-form, else-form}

pub returns : goal.returns
unfolding number_if number_text end_text
returns c =
    let csv = c.args.form.csv in
    let n = c.args.block in
    elim c.if-form.branch [
      | then-form w ↦
          let room : w.saturating_sub.result ≡ 10 - length (decimal n) = omega (arith, w.saturating_sub.ensures, w.decimal_size.ensures.0) in
          let cell =
          writes_as (ap (λ (k : ℕ). decimal n ++ cond csv [] (replicate k 32)) room ∙ filled_parts csv 10 (decimal n))
          (writes_then w.put_decimal.ensures w.put_fill.ensures) in
          writes_as (rw w.if-form.true) (writes_then (writes_then w.put_gap.ensures cell) (rw w.page-is at c.put.ensures))
      | else-form w ↦ writes_as (rw w.if-form.false) (rw w.page-is at c.put.ensures)
    ]
