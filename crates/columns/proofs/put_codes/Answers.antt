use mathlib.Core.Path.{◌≡◌, sym, ap, ap₂, ◌∙◌}
use mathlib.Core.Logic.{◌⊎◌, inl, inr}
use lib.ListN.{length}
use Rattle.rules.specs.Field.{pair}
use Rattle.lists.specs.Stored.{paired}
use Rattle.out.proofs.Pages.{going_start, going_on, going_as, going_end}
use Rattle.sets.specs.Shown.{shown_as}
use Rattle.text.proofs.Texts.{paired_next, paired_end}
use Rattle.columns.specs.Columns.{code_rows, rows_text}
use Rattle.columns.specs.Cells.{cell_of, number_in}
use Rattle.columns.proofs.put_codes.Goals as goal

pub loop-kind-init : goal.loop-kind-init
loop-kind-init c =
    let w = c.args.rows in
    let whole = c.into_iter-kind-iterator.ensures.into_iter_gives in
    let kinds = ap (λ it. it.a.rest.now) whole ∙ ap (λ it. it.rest.now) c.zip-kind-items.ensures.first ∙ c.iter.ensures.rest in
    let numbers = ap (λ it. it.b.rest.now) whole ∙ c.zip-kind-items.ensures.second.0 in
    going_as
    (ap (λ ps. rows_text w.form.csv (code_rows (number_in w) (shown_as w.key w.on c.args.list.now) ps)) (sym (ap₂ paired kinds numbers ∙ c.pairs-pairs.ensures.pairs)))
    (going_start _ _)

pub loop-kind-preserved : goal.loop-kind-preserved
unfolding rows_text code_rows shown_as cell_of pair
loop-kind-preserved c =
    let w = c.args.rows in
    let steps = c.in-Some.ensures.steps in
    going_on
    (ap (λ ps. rows_text w.form.csv (code_rows (number_in w) (shown_as w.key w.on c.args.list.now) ps)) (paired_next steps.0 steps.1))
    c.loop-kind.invariant
    c.put_row.ensures

pub returns : goal.returns
unfolding rows_text code_rows
returns c =
    let w = c.args.rows in
    let at = c.loop-kind.kind-iterator in
    let none : (length at.a.rest.now ≡ 0) ⊎ (length at.b.rest.now ≡ 0) = elim c.in-None.ensures.steps [ inl h ↦ inl h.1.0 | inr h ↦ inr h.1.0 ] in
    going_end
    (ap (λ ps. rows_text w.form.csv (code_rows (number_in w) (shown_as w.key w.on c.args.list.now) ps)) (paired_end at.a.rest.now at.b.rest.now none))
    c.loop-kind.invariant
