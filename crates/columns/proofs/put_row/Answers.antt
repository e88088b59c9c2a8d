-- `columns::put_row` meets its contract: its parts one after another.
use Prim.Native.Nat.{ℕ, ◌*◌}
use native.Mathlib.Omega.{arith}
use mathlib.Core.Path.{◌≡◌, ap, ◌∙◌}
use mathlib.Core.Bool.{cond, ◌||◌}
use lib.Dec.{eqb}
use Rattle.rules.specs.Collecting.{key_width}
use Rattle.rules.proofs.TableRules.{width_most}
use Rattle.out.proofs.Pages.{writes_as, writes_then}
use Rattle.columns.specs.Columns.{Cell, blank, row_of, filled, cells_text, cell_text, row_text}
use Rattle.columns.specs.Cells.{cell_of}
use Rattle.columns.proofs.Lines.{third_column}
use Rattle.columns.proofs.put_row.Goals as goal

pub overflow_mul-digits : goal.overflow_mul-digits
overflow_mul-digits c = record { fits = omega (arith, c.width_of-digits.ensures, width_most c.args.rows.key) }

pub returns : goal.returns
unfolding row_text row_of cells_text
returns c =
    let a = c.args in
    let csv = a.rows.form.csv in
    let w : 2 * c.width_of-digits.result ≡ 2 * key_width a.rows.key = ap (λ (k : ℕ). 2 * k) c.width_of-digits.ensures in
    let first = ap (λ (d : ℕ). filled csv 9 (cell_text csv (cond (eqb a.kind 0) (cell_of d a.code) blank))) w in
    let second = ap (λ (d : ℕ). filled csv 9 (cell_text csv (cond (eqb a.kind 1) (cell_of d a.code) blank))) w in
    let third =
    ap (λ (x : Cell). filled csv 9 (cell_text csv x)) (third_column a.kind (cell_of (2 * c.width_of-digits.result) a.code))
    ∙ ap (λ (d : ℕ). filled csv 9 (cell_text csv (cond (eqb a.kind 0 || eqb a.kind 1) blank (cell_of d a.code)))) w in
    let dabs = writes_then (writes_then c.put_head.ensures (writes_as first c.put_cell.ensures)) c.put_gap.ensures in
    let fms = writes_then (writes_then dabs (writes_as second c.put_cell-2.ensures)) c.put_gap-2.ensures in
    writes_then (writes_then fms (writes_as third c.put_cell-3.ensures)) c.put_end.ensures
