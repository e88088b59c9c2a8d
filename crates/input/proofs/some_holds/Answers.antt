use mathlib.Core.Path.{sym, ap, ◌∙◌}
use native.Mathlib.Omega.{arith}
use Rattle.input.specs.Reading.{good_in}
use Rattle.input.proofs.Laws.{good_found, good_passed, good_none}
use Rattle.input.proofs.some_holds.Goals as goal

pub returns-then-check_holds : goal.returns-then-check_holds
returns-then-check_holds c =
    let (wide, so) = c.loop-block.invariant in
    let (cut, size) = c.in-Some.ensures.steps.1 in
    good_found _ _ _ _ (size ∙ wide) c.check_holds.ensures (sym (ap good_in cut) ∙ so) c.if-check_holds.true

pub loop-block-preserved : goal.loop-block-preserved
loop-block-preserved c =
    let (wide, so) = c.loop-block.invariant in
    let (cut, size) = c.in-Some.ensures.steps.1 in
    (c.in-Some.ensures.steps.0 ∙ wide, good_passed _ _ _ _ (size ∙ wide) c.check_holds.ensures (sym (ap good_in cut) ∙ so) c.if-check_holds.false)

pub returns : goal.returns
returns c =
    let (wide, so) = c.loop-block.invariant in
    sym (good_none _ (omega (arith, c.in-None.ensures.steps.1.0, wide))) ∙ so
