-- Identifiers on plain lists, in this order: which number stands at an index; how many pairs a field
-- has and which stands at an index; the pair that an identifier of a kind is.
use Prim.Native.Nat.{ℕ, zero, suc, ◌*◌, ◌<◌}
use native.Mathlib.Omega.{arith}
use native.Mathlib.Nat.{zero-mul, suc-mul, add_comm}
use mathlib.Core.Path.{◌≡◌, refl, ap}
use mathlib.Core.Bool.{Bool, true, false, cond}
use mathlib.Core.List.{List, [], ◌∷◌, map}
use lib.ListN.{length, get_or, take, drop, length-map, get_or-map}
use lib.Seq.{drop-drop}
use lib.Dec.{eqb, eqb-suc-zero}
use Rattle.rules.specs.Field.{Pair, pair, big_endian, identifiers, start_pairs}
use Rattle.field.specs.FieldStep.{of_kind, pair_of}

-- the i-th number is written by the w bytes after those of the i before it
pub identifiers_at :
    (w n i : ℕ) (bytes : List ℕ) → i < n → get_or (identifiers w n bytes) i 0 ≡ big_endian 0 (take w (drop (i * w) bytes))
unfolding identifiers
identifiers_at w zero i bytes h = absurd (omega arith)
identifiers_at w (suc n) zero bytes h = rw zero-mul
identifiers_at w (suc n) (suc i) bytes h =
    rw (identifiers_at w n i (drop w bytes) (omega arith), drop-drop (i * w) w bytes, suc-mul i w, add_comm (i * w) w)

-- the pairs of a field, by whether it is a continuation, the kind of a start's first, its qualifier and its numbers
abbrev pub pairs_by : Bool → ℕ → ℕ → List ℕ → List Pair
pairs_by more first q ns = cond more (map (pair q) ns) (start_pairs first q ns)

pub length_pairs : (more : Bool) (first q : ℕ) (ns : List ℕ) → length (pairs_by more first q ns) ≡ length ns
unfolding start_pairs
length_pairs true first q ns = length-map ns (pair q)
length_pairs false first q [] = refl
length_pairs false first q (n ∷ ns) = ap suc (length-map ns (pair q))

-- the i-th pair: of the qualifier's kind, but for the first of a start
pub pairs_at :
    (more : Bool) (first q i : ℕ) (ns : List ℕ) → i < length ns
    → get_or (pairs_by more first q ns) i (pair q 0) ≡ pair (cond more q (cond (eqb i 0) first q)) (get_or ns i 0)
unfolding start_pairs
pairs_at true first q i ns h = get_or-map (pair q) ns i 0
pairs_at false first q i [] h = absurd (omega arith)
pairs_at false first q zero (n ∷ ns) h = refl
pairs_at false first q (suc i) (n ∷ ns) h = rw (eqb-suc-zero i) (get_or-map (pair q) ns i 0)

-- of the kinds that there are, an identifier keeps kind and number
pub of_kind_pair : (k n : ℕ) → k < 4 → (k ≡ 2 → ⊥) → pair_of (of_kind k n) ≡ pair k n
unfolding of_kind pair
of_kind_pair zero n h not = refl
of_kind_pair (suc zero) n h not = refl
of_kind_pair (suc (suc zero)) n h not = absurd (not refl)
of_kind_pair (suc (suc (suc zero))) n h not = refl
of_kind_pair (suc (suc (suc (suc k)))) n h not = absurd (omega arith)
