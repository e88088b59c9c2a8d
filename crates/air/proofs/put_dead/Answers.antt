-- `air::put_dead` meets its contract.
use mathlib.Core.Path.{sym, ap, ◌∙◌}
use mathlib.Core.List.{append-nil}
use Rattle.lists.specs.Stored.{listed}
use Rattle.pieces.specs.Air.{dead_link, blocks_of}
use Rattle.sets.specs.Shown.{set_in}
use Rattle.out.proofs.Pages.{writes_none, writes_as}
use Rattle.air.proofs.Sets.{dead_there, dead_none}
use Rattle.air.proofs.put_dead.Goals as goal

pub returns-then-is_dead : goal.returns-then-is_dead
unfolding blocks_of set_in
returns-then-is_dead c =
    let a = c.args in
    writes_as
    (sym (append-nil _)
    ∙ ap (blocks_of a.head.key a.head.on)
    (sym (dead_there a.kind a.named (listed c.pairs.result) (sym c.is_dead.ensures ∙ c.if-is_dead.true)) ∙ ap (dead_link a.kind a.named) c.pairs.ensures.pairs))
    c.put_block.ensures

pub returns-else-is_dead : goal.returns-else-is_dead
unfolding blocks_of set_in
returns-else-is_dead c =
    let a = c.args in
    writes_as
    (ap (blocks_of a.head.key a.head.on)
    (sym (dead_none a.kind a.named (listed c.pairs.result) (sym c.is_dead.ensures ∙ c.if-is_dead.false)) ∙ ap (dead_link a.kind a.named) c.pairs.ensures.pairs))
    (writes_none c.args.page.now)
