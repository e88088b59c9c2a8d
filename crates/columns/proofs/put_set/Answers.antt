-- `columns::put_set` meets its contract: its parts one after another.
use mathlib.Core.Path.{ap}
use mathlib.Core.Bool.{Bool}
use Rattle.rules.specs.Field.{rds, drm}
use Rattle.out.proofs.Pages.{writes_as, writes_then}
use Rattle.sets.specs.Shown.{set_in, shown_as}
use Rattle.text.proofs.Texts.{names_rds, names_drm}
use Rattle.columns.specs.Columns.{dead_rows, rows_text}
use Rattle.columns.specs.Cells.{number_in}
use Rattle.columns.proofs.Lines.{set_parts}
use Rattle.columns.proofs.put_set.Goals as goal

pub returns : goal.returns
unfolding shown_as set_in
returns c =
    let w = c.args.rows in
    let list = c.args.list.now in
    let s = shown_as w.key w.on list in
    let r = writes_as (ap (λ (b : Bool). rows_text w.form.csv (dead_rows (number_in w) s rds b)) (names_rds list.named)) c.put_dead.ensures in
    let m = writes_as (ap (λ (b : Bool). rows_text w.form.csv (dead_rows (number_in w) s drm b)) (names_drm list.named)) c.put_dead-2.ensures in
    writes_as (set_parts w.form.csv (number_in w) s _) (writes_then (writes_then (writes_then c.put_codes.ensures r) m) c.put_rule.ensures)
