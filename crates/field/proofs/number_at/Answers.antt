-- `field::number_at` meets its contract: each byte more goes after the number of those before it.
-- Assumes nothing.
use Prim.Native.Nat.{ℕ}
use native.Mathlib.Omega.{arith}
use mathlib.Core.Path.{◌≡◌, ap}
use Rattle.field.specs.FieldStep.{number_at}
use Rattle.field.proofs.Numbers.{number_at_one, number_at_more}
use Rattle.field.proofs.number_at.Goals as goal

pub returns-then-w-eq2 : goal.returns-then-w-eq2
returns-then-w-eq2 c =
    let x = c.args in
    let n : ℕ → ℕ = λ w. number_at w x.body.now x.place in
    omega (arith, number_at_one x.body.now x.place, number_at_more 1 x.body.now x.place, ap n c.if-w-eq2.true)

pub returns-then-w-eq3 : goal.returns-then-w-eq3
returns-then-w-eq3 c =
    let x = c.args in
    let n : ℕ → ℕ = λ w. number_at w x.body.now x.place in
    omega (
      arith,
      number_at_one x.body.now x.place,
      number_at_more 1 x.body.now x.place,
      number_at_more 2 x.body.now x.place,
      ap n c.if-w-eq3.true,
    )

pub returns : goal.returns
returns c =
    let x = c.args in
    let n : ℕ → ℕ = λ w. number_at w x.body.now x.place in
    let four : x.w ≡ 4 = omega arith in
    omega (
      arith,
      number_at_one x.body.now x.place,
      number_at_more 1 x.body.now x.place,
      number_at_more 2 x.body.now x.place,
      number_at_more 3 x.body.now x.place,
      ap n four,
    )
