-- Numbers of several bytes, in this order: a number with one byte more at its end;
-- the bytes within a body as a part of it; the widths of identifiers.
use Prim.Native.Nat.{ℕ, zero, suc, ◌+◌, ◌*◌, ◌≤◌, ◌<◌}
use native.Mathlib.Omega.{arith}
use native.Mathlib.Nat.{add-zero}
use native.Mathlib.Numerals.{add-one}
use mathlib.Core.Path.{◌≡◌, refl, ap}
use mathlib.Core.Bool.{Bool, true, false, cond}
use mathlib.Core.List.{List, [], ◌∷◌, ◌++◌}
use lib.ListN.{length, get_or, take, drop}
use lib.Seq.{drop-cons}
use lib.Dec.{eqb}
use Rattle.rules.specs.Field.{width, big_endian}
use Rattle.field.specs.FieldStep.{bytes_at, number_at}

-- a number with one byte more at its end
big_endian_more : (n : ℕ) (bs : List ℕ) (b : ℕ) → big_endian n (bs ++ b ∷ []) ≡ big_endian n bs * 256 + b
unfolding big_endian
big_endian_more n [] b = refl
big_endian_more n (x ∷ bs) b = big_endian_more (n * 256 + x) bs b

shift : (a b : ℕ) → a + suc b ≡ a + 1 + b
shift a b = omega arith

-- one byte more is the byte after them
bytes_at_more : (w : ℕ) (body : List ℕ) (place : ℕ) → bytes_at (suc w) body place ≡ bytes_at w body place ++ get_or body (place + w) 0 ∷ []
unfolding bytes_at
bytes_at_more zero body place = simp add-zero
bytes_at_more (suc w) body place = rw (shift place w) (ap (λ (l : List ℕ). get_or body place 0 ∷ l) (bytes_at_more w body (place + 1)))

pub number_at_more : (w : ℕ) (body : List ℕ) (place : ℕ) → number_at (suc w) body place ≡ number_at w body place * 256 + get_or body (place + w) 0
unfolding number_at
number_at_more w body place = rw (bytes_at_more w body place) (big_endian_more 0 (bytes_at w body place) (get_or body (place + w) 0))

pub number_at_one : (body : List ℕ) (place : ℕ) → number_at 1 body place ≡ get_or body place 0
unfolding number_at bytes_at big_endian
number_at_one body place = omega arith

-- within a body they are a part of it
pub bytes_at_within : (w : ℕ) (body : List ℕ) (place : ℕ) → place + w ≤ length body → bytes_at w body place ≡ take w (drop place body)
unfolding bytes_at
bytes_at_within zero body place h = refl
bytes_at_within (suc w) body place h =
    let rest : bytes_at w body (place + 1) ≡ take w (drop (place + 1) body) = bytes_at_within w body (place + 1) (omega arith) in
    let here : place < length body = omega arith in
    rw (rest, drop-cons body place 0 here, add-one place)

-- an identifier has two, three or four bytes
pub width_range : (pd ils : ℕ) → (2 ≤ width pd ils) × (width pd ils ≤ 4)
unfolding width
width_range pd ils = go (eqb pd 1) (eqb ils 1)
  where
    go : (a b : Bool) → (2 ≤ cond a 4 (cond b 3 2)) × (cond a 4 (cond b 3 2) ≤ 4)
    go true b = omega arith
    go false true = omega arith
    go false false = omega arith
