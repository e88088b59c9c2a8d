-- `reading::opened` meets its contract.
use mathlib.Core.Path.{◌≡◌, ap, ◌∙◌}
use lib.Dec.{eqb}
use Rattle.lists.specs.declared.IdList.{IdList}
use Rattle.std.specs.Prelude.{unwrap_or}
use Rattle.lists.specs.Stored.{empty_list}
use Rattle.lists.specs.Grown.{with_field}
use Rattle.sets.specs.Stored.{opened_sets}
use Rattle.reading.proofs.opened.Goals as goal

pub returns : goal.returns
returns c =
    let a = c.args in
    let first : c.with_field.result ≡ with_field empty_list a.body.now a.f = c.with_field.ensures ∙ ap (λ (l : IdList). with_field l a.body.now a.f) c.empty.ensures in
    c.opened_at.ensures
    ∙ ap (opened_sets a.sets a.at a.key (eqb a.f.la 1)) (c.unwrap_or-list.ensures ∙ (λ i. unwrap_or (first i) (c.empty-2.ensures i)))
