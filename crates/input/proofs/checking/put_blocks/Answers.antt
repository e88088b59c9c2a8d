use native.Mathlib.Omega.{arith}
use mathlib.Core.Path.{◌≡◌, refl, ◌∙◌}
use mathlib.Core.Bool.{Bool, true, false}
use mir.Val.{bool_byte}
use Rattle.rules.specs.Block.{bit}
use Rattle.input.proofs.CheckLaws.{telling_on, telling_within, telling_end, telling_counts}
use Rattle.input.proofs.checking.put_blocks.Goals as goal

-- a flag as a number
as_bit : (b : Bool) → bool_byte b ≡ bit b
unfolding bit
as_bit true = refl
as_bit false = refl

pub overflow_add-refused : goal.overflow_add-refused
overflow_add-refused c =
    let (wide, telling) = c.loop-i.invariant in
    let step = c.in-Some.ensures.steps in
    omega (arith, telling_within telling _ _ _ _ _ step.0.1.0 (step.0.1.1 ∙ wide) step.1 step.2 c.put_block.ensures (c.from-refused.ensures ∙ as_bit _), c.requires)

pub loop-i-preserved : goal.loop-i-preserved
loop-i-preserved c =
    let (wide, telling) = c.loop-i.invariant in
    let step = c.in-Some.ensures.steps in
    (step.0.0 ∙ wide, telling_on telling _ _ _ _ _ step.0.1.0 (step.0.1.1 ∙ wide) step.1 step.2 c.put_block.ensures (c.from-refused.ensures ∙ as_bit _))

pub returns : goal.returns
returns c =
    let (wide, telling) = c.loop-i.invariant in
    let few = c.in-None.ensures.steps.0.1.0 in
    record { lines = telling_end telling (omega (arith, few, wide)); refused_are = telling_counts telling (omega (arith, few, wide)) }
