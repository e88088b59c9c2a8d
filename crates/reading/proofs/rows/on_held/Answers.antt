-- `rows::on_held` meets its contract, case by case.
use mathlib.Core.Path.{sym, ap, ◌∙◌}
use Rattle.std.specs.Prelude.{unwrap_or}
use Rattle.lists.specs.Grown.{with_field}
use Rattle.reading.specs.declared.rows.Row.{Row}
use Rattle.reading.specs.Gathered.{row_list}
use Rattle.reading.proofs.HeldRows.{row_state, row_none, row_added, row_long, row_opened, row_shown}
use Rattle.reading.proofs.rows.on_held.Goals as goal

pub returns-then-not-has_list : goal.returns-then-not-has_list
returns-then-not-has_list c = row_state _ _ (λ j. (c.type_inv.body j).fits) _ _ _ _ _ _ _ (sym c.has_list.ensures ∙ c.if-not-has_list.true) c.step_of.ensures

pub returns-then-len-eq0 : goal.returns-then-len-eq0
returns-then-len-eq0 c = row_none _ _ (λ j. (c.type_inv.body j).fits) _ _ _ _ _ _ _ (sym c.has_list.ensures ∙ c.if-not-has_list.false) (sym c.is_continuation.ensures ∙ c.if-is_continuation.true) c.if-len-eq0.true c.step_of-then-len-eq0.ensures

pub returns-in-Some : goal.returns-in-Some
returns-in-Some c =
    row_added _ _ (λ j. (c.type_inv.body j).fits) _ _ _ _ _ _ _ _ _ (sym c.has_list.ensures ∙ c.if-not-has_list.false) (sym c.is_continuation.ensures ∙ c.if-is_continuation.true) c.if-len-eq0.false
    c.append.result _ c.in-Some.is c.append.ensures c.step_of-in-Some.ensures

pub returns-in-None : goal.returns-in-None
returns-in-None c =
    row_long _ _ (λ j. (c.type_inv.body j).fits) _ _ _ _ _ _ _ _ _ (sym c.has_list.ensures ∙ c.if-not-has_list.false) (sym c.is_continuation.ensures ∙ c.if-is_continuation.true) c.if-len-eq0.false
    c.append.result c.in-None.is c.append.ensures _ c.none.ensures c.step_of-in-None.ensures

pub returns-then-len-eq0-2 : goal.returns-then-len-eq0-2
returns-then-len-eq0-2 c =
    let a = c.args in
    row_opened _ _ (λ j. (c.type_inv.body j).fits) _ _ _ _ _ _ _ c.append-then-len-eq0-2.result _
    (c.unwrap_or-row.ensures ∙ ap (unwrap_or c.append-then-len-eq0-2.result) c.none-then-len-eq0-2-2.ensures) _ _
    (sym c.has_list.ensures ∙ c.if-not-has_list.false) (sym c.is_continuation.ensures ∙ c.if-is_continuation.false) c.if-len-eq0-2.true
    (c.append-then-len-eq0-2.ensures ∙ ap (λ (r : Row). with_field (row_list a.dn.now a.dk.now r) a.body.now a.f) c.none-then-len-eq0-2.ensures) c.step_of-then-len-eq0-2.ensures

pub returns : goal.returns
returns c =
    let a = c.args in
    row_shown _ _ (λ j. (c.type_inv.body j).fits) _ _ _ _ _ _ _ c.append-2.result _
    (c.unwrap_or-row-2.ensures ∙ ap (unwrap_or c.append-2.result) c.none-3.ensures) _ _
    (sym c.has_list.ensures ∙ c.if-not-has_list.false) (sym c.is_continuation.ensures ∙ c.if-is_continuation.false) c.if-len-eq0-2.false
    (c.append-2.ensures ∙ ap (λ (r : Row). with_field (row_list a.dn.now a.dk.now r) a.body.now a.f) c.none-2.ensures)
    c.requires.2 c.requires.3 c.requires.4 _ _ c.copy_row.ensures.0 c.copy_row.ensures.1 c.step_of-2.ensures
