-- `columns::put_dead` meets its contract: one row, or none.
use mathlib.Core.Path.{sym, ◌∙◌}
use mathlib.Core.List.{append-nil}
use Rattle.out.proofs.Pages.{writes_none, writes_as}
use Rattle.sets.specs.Shown.{set_in, shown_as}
use Rattle.columns.specs.Columns.{dead_rows, rows_text}
use Rattle.columns.specs.Cells.{cell_of}
use Rattle.columns.proofs.put_dead.Goals as goal

pub returns-then-is_dead : goal.returns-then-is_dead
unfolding dead_rows rows_text shown_as set_in cell_of
returns-then-is_dead c =
    writes_as (rw (← c.kind_named.ensures, ← c.pairs.ensures.pairs, sym c.is_dead.ensures ∙ c.if-is_dead.true) (sym (append-nil _))) c.put_row.ensures

pub returns-else-is_dead : goal.returns-else-is_dead
unfolding dead_rows rows_text shown_as set_in
returns-else-is_dead c = writes_as (rw (← c.kind_named.ensures, ← c.pairs.ensures.pairs, sym c.is_dead.ensures ∙ c.if-is_dead.false)) (writes_none _)
