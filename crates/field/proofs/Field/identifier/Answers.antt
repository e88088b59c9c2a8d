-- `field::Field::identifier` meets its contract. No sum wraps: the index is below 16, an identifier has four bytes at most and
-- the place where they begin lies within the body.
-- Assumes nothing.
use Prim.Native.Nat.{ℕ, ◌*◌, ◌≤◌, ◌<◌}
use native.Mathlib.Omega.{arith}
use native.Mathlib.Nat.{mul-le-mul}
use mathlib.Core.Path.{◌≡◌}
use Rattle.rules.specs.Field.{width}
use Rattle.field.proofs.Numbers.{width_range}
use Rattle.field.proofs.Field.identifier.Goals as goal

-- how far from there the identifier begins, and its width
offset : (i pd ils w : ℕ) → i < 16 → w ≡ width pd ils → (i * w ≤ 60) × (2 ≤ w) × (w ≤ 4)
offset i pd ils w few e =
    let r = width_range pd ils in
    let four : w ≤ 4 = omega arith in
    let last : i ≤ 15 = omega arith in
    (mul-le-mul last four, omega arith, four)

pub overflow_mul-i : goal.overflow_mul-i
overflow_mul-i c = omega (arith, offset _ _ _ _ c.if-i-ge16.false c.width-w.ensures)

pub overflow_add-self : goal.overflow_add-self
overflow_add-self c = omega (arith, offset _ _ _ _ c.if-i-ge16.false c.width-w.ensures)

pub number_at-requires : goal.number_at-requires
number_at-requires c = omega (arith, offset _ _ _ _ c.if-i-ge16.false c.width-w.ensures)
