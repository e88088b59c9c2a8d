use mathlib.Core.Path.{refl, sym, ap, ◌∙◌}
use Rattle.std.specs.Prelude.{Some, None}
use Rattle.rules.specs.Field.{pair}
use Rattle.rules.specs.Family.{member}
use Rattle.rules.specs.Collecting.{linkage}
use Rattle.lists.specs.Grown.{put, renamed}
use Rattle.lists.proofs.GrownLaws.{grown_there, grown_put, grown_full, grown_end, grown_first, grown_from, with_field_is}
use Rattle.lists.proofs.IdList.with_field.Goals as goal
use Rattle.lists.proofs.IdList.with_field.Goals.{else-not-has, then-not-has+else-len-ge-MOST}

pub loop-i-init : goal.loop-i-init
loop-i-init c = grown_first _ _ _ _

pub returns-then-len-ge-MOST : goal.returns-then-len-ge-MOST
unfolding renamed
returns-then-len-ge-MOST c =
    let has = c.has.ensures ∙ ap (member linkage (pair c.kind-kind.result c.number-number.result)) c.pairs.ensures.pairs in
    with_field_is _ _ _ _ _ None refl c.names_with.ensures
    (sym c.loop-i.invariant
    ∙ grown_full _ _ _ _ _ _ _ _ c.identifier-id.ensures c.kind-kind.ensures c.number-number.ensures _ has c.if-not-has.true c.loop-i-test.true c.if-len-ge-MOST.true)

pub loop-i-preserved : goal.loop-i-preserved
unfolding put pair
loop-i-preserved c =
    let has = c.has.ensures ∙ ap (member linkage (pair c.kind-kind.result c.number-number.result)) c.pairs.ensures.pairs in
    elim c.if-not-has.branch [
      | then-not-has+else-len-ge-MOST w ↦ grown_from _ _ _ _ w.next-is (grown_put _ _ _ _ _ _ _ _ c.identifier-id.ensures c.kind-kind.ensures c.number-number.ensures _ has w.if-not-has.true c.loop-i-test.true w.if-len-ge-MOST.false ∙ c.loop-i.invariant)
      | else-not-has w ↦ grown_from _ _ _ _ w.next-is (grown_there _ _ _ _ _ _ _ _ c.identifier-id.ensures c.kind-kind.ensures c.number-number.ensures _ has w.if-not-has.false c.loop-i-test.true ∙ c.loop-i.invariant)
    ]

pub returns : goal.returns
unfolding renamed
returns c =
    with_field_is _ _ _ _ _ (Some c.loop-i.next) refl c.names_with.ensures
    (sym c.loop-i.invariant ∙ grown_end _ _ _ _ _ c.loop-i-test.false)
