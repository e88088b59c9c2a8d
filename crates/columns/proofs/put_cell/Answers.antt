-- `columns::put_cell` meets its contract: blanks, or a text that is as wide as the column, or a code and the blanks after it.
use native.Mathlib.Omega.{arith}
use mathlib.Core.Path.{◌≡◌}
use mathlib.Core.Bool.{true, false}
use Rattle.out.proofs.Pages.{writes_as, writes_then}
use Rattle.columns.specs.Columns.{cell_text}
use Rattle.columns.specs.Cells.{cell_of}
use Rattle.columns.proofs.Lines.{filled_parts, filled_whole, filled_code}
use Rattle.columns.proofs.put_cell.Goals as goal

pub returns-then-not-here : goal.returns-then-not-here
unfolding cell_text
returns-then-not-here c =
    let e : c.args.here ≡ false = c.if-not-here.true in
    writes_as (rw e (filled_parts c.args.csv 9 _)) c.put_fill.ensures

pub returns-in-None : goal.returns-in-None
unfolding cell_text cell_of
returns-in-None c =
    let e : c.args.here ≡ true = c.if-not-here.false in
    writes_as (rw (e, c.in-None.is) (filled_whole c.args.csv 9 _ (omega arith))) c.put_bytes.ensures

pub returns-in-Some : goal.returns-in-Some
unfolding cell_text cell_of
returns-in-Some c =
    let a = c.args in
    let e : a.here ≡ true = c.if-not-here.false in
    writes_as
    (rw (e, c.in-Some.is) (filled_code a.csv a.digits c.in-Some.n _ c.saturating_sub.ensures))
    (writes_then c.put_code.ensures c.put_fill-in-Some.ensures)
