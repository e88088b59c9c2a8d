-- The register keeps its 16 bits, so that the check is a number of 16 bits.
use Prim.Native.Nat.{ℕ, suc, ◌+◌, ◌*◌, ◌^◌, ◌≤◌, ◌<◌}
use native.Mathlib.Nat.{mul-le-mul_right, pow-succ'}
use native.Mathlib.Omega.{arith}
use mathlib.Core.Path.{◌≡◌, refl, sym, ap, ◌∙◌}
use mathlib.Core.Bool.{Bool, true, false, not, xor}
use mathlib.Core.List.{List, [], ◌∷◌, ◌++◌, map, zip_with}
use lib.ListN.{length, replicate, length-append, length-map}
use Rattle.rules.specs.Block.{bits, bit, number, generator, shift, shifts, register, check_of}
use Rattle.rules.proofs.Basics.{cond_both, bit_small}

zip_length : (xs ys : List Bool) → length xs ≡ length ys → length (zip_with xor xs ys) ≡ length xs
unfolding zip_with
zip_length [] ys h = refl
zip_length (x ∷ xs) [] h = absurd (omega arith)
zip_length (x ∷ xs) (y ∷ ys) h = ap suc (zip_length xs ys (omega arith))

generator_length : length generator ≡ 16
unfolding generator bits
generator_length = refl

pub shift_length : (r : List Bool) (d : Bool) → length r ≡ 16 → length (shift r d) ≡ 16
unfolding shift
shift_length [] d h = h
shift_length (top ∷ low) d h =
    let n : length (low ++ false ∷ []) ≡ 16 = omega (arith, length-append low (false ∷ [])) in
    cond_both (λ (r : List Bool). length r ≡ 16) (xor top d) (zip_with xor (low ++ false ∷ []) generator) (low ++ false ∷ [])
    (zip_length (low ++ false ∷ []) generator (n ∙ sym generator_length) ∙ n) n

pub shifts_length : (r : List Bool) (ds : List Bool) → length r ≡ 16 → length (shifts r ds) ≡ 16
unfolding shifts
shifts_length r [] h = h
shifts_length r (d ∷ ds) h = shifts_length (shift r d) ds (shift_length r d h)

register_length : (r : List Bool) (bs : List ℕ) → length r ≡ 16 → length (register r bs) ≡ 16
unfolding register
register_length r [] h = h
register_length r (b ∷ bs) h = register_length (shifts r (bits 8 b)) bs (shifts_length r (bits 8 b) h)

-- a number that so many bits write
number_below : (n : ℕ) (bs : List Bool) → number n bs < (n + 1) * 2 ^ length bs
unfolding number
number_below n [] = omega arith
number_below n (b ∷ bs) =
    let h : number (n * 2 + bit b) bs < (n * 2 + bit b + 1) * 2 ^ length bs = number_below (n * 2 + bit b) bs in
    let i : n * 2 + bit b + 1 ≤ n * 2 + 2 = omega (arith, bit_small b) in
    rw (pow-succ' 2 (length bs)) (omega (arith, mul-le-mul_right (2 ^ length bs) i))

-- the check is a number of 16 bits
pub check_small : (data' : List ℕ) → check_of data' < 65536
unfolding check_of
check_small data' =
    let r : List Bool = register (replicate 16 true) data' in
    let n : length (map not r) ≡ 16 = length-map r not ∙ register_length (replicate 16 true) data' refl in
    rw n at (number_below 0 (map not r))
