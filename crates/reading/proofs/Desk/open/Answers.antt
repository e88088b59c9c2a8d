-- `reading::Desk::open` meets its contract: the sets with the new key, laid out.
use mathlib.Core.Path.{refl, ap, subst, ◌∙◌}
use lib.Dec.{eqb}
use Rattle.std.specs.Prelude.{unwrap_or}
use Rattle.lists.specs.Grown.{with_field}
use Rattle.lists.specs.Stored.{empty_list}
use Rattle.sets.specs.declared.Sets.{Sets}
use Rattle.sets.specs.Stored.{opened_sets}
use Rattle.reading.specs.Desks.{desk_of, LaidOut}
use Rattle.reading.proofs.Desk.open.Goals as goal

pub returns : goal.returns
returns c =
    let a = c.args in
    subst (λ (s : Sets). LaidOut s a.self.now.totals a.self.now.blocks (desk_of c.opened-sets.result c.lay.new.self c.lay-2.new.self a.self.now.totals a.self.now.blocks))
    (c.opened-sets.ensures ∙ ap (λ (s : Sets). opened_sets s a.p a.key (eqb a.f.la 1) (unwrap_or (with_field empty_list a.body.now a.f) empty_list)) c.sets.ensures)
    (record { shown = c.lay.ensures; draft = c.lay-2.ensures; same = refl })
