-- The functions that go over a table's arrays. In order: one turn of the loop that tests keys; what is so of all pairs of two arrays,
-- and of all values from a place on; the search for a place; an array with its values moved one place; how many sets are shown.
use Prim.Native.Nat.{ℕ, suc, ◌+◌, ◌-◌, ◌<◌, ◌≤◌}
use native.Mathlib.Numerals.{add-one}
use native.Mathlib.Omega.{arith}
use mathlib.Core.Path.{◌≡◌, refl, sym, ap, ap₂, ◌∙◌, subst}
use mathlib.Core.Bool.{Bool, true, false}
use mathlib.Core.List.{List, [], ◌∷◌, ◌++◌, append-nil}
use lib.ListN.{length, get_or, set, take, drop, length-append, length-drop, drop_of_length-le}
use lib.Seq.{paste, drop-cons, set_split, set_at, drop_at, take-take, take-append-le, take-append-add, take_all, length-take-le, get_or-drop}
use borrow.Author.Tests.{lt-ltb, le-ltb}
use Rattle.std.specs.Bool.{MatchBool}
use Rattle.std.specs.List.{AllWithin, HoldsAt, zip}
use Rattle.std.proofs.lemmas.Slice.Zip.{length-zip, get_or-zip}
use Rattle.rules.specs.Arrays.{opened, shut}
use Rattle.rules.specs.Collecting.{is_key, most_keys}
use Rattle.lists.specs.declared.IdList.{IdList}
use Rattle.lists.specs.Stored.{Tested}
use Rattle.lists.proofs.StoredLaws.{refuted, passed}
use Rattle.sets.specs.Stored.{past}
use Rattle.sets.specs.Places.{keys_meet}

-- ---- the test of the keys

module _ (keys : List ℕ) (last i : ℕ) where
  abbrev Rest : ℕ → ℕ → Type 0
  Rest k j = keys_meet k (drop j keys) ≡ keys_meet 0 keys

  here : i < length keys → drop i keys ≡ get_or keys i 0 ∷ drop (i + 1) keys
  here h = rw (add-one i) (drop-cons keys i 0 h)

  pub keys_next : i < length keys → last < get_or keys i 0 → is_key (get_or keys i 0) ≡ true → Rest last i → Rest (get_or keys i 0) (i + 1)
  unfolding keys_meet
  keys_next h a k e = sym (ap (keys_meet last) (here h) ∙ rw (lt-ltb _ _ a, k)) ∙ e

  pub keys_not_after : i < length keys → get_or keys i 0 ≤ last → Rest last i → false ≡ keys_meet 0 keys
  unfolding keys_meet
  keys_not_after h a e = sym (ap (keys_meet last) (here h) ∙ rw (le-ltb _ _ a)) ∙ e

  pub keys_not : i < length keys → last < get_or keys i 0 → is_key (get_or keys i 0) ≡ false → Rest last i → false ≡ keys_meet 0 keys
  unfolding keys_meet
  keys_not h a k e = sym (ap (keys_meet last) (here h) ∙ rw (lt-ltb _ _ a, k)) ∙ e

  pub keys_end : length keys ≤ i → Rest last i → true ≡ keys_meet 0 keys
  unfolding keys_meet
  keys_end h e = sym (ap (keys_meet last) (drop_of_length-le keys {i = i} h)) ∙ e

-- ---- a test of all, where it says of each whether it is so

tested_match : {r : Bool} {P Q T : Type 0} → MatchBool r P Q → (P → T) → (Q → T → ⊥) → Tested r T
tested_match {r = true} m f g = passed _ (f m)
tested_match {r = false} m f g = refuted _ (g m)

-- of each number of an array and the list at its place
pub tested_pairs : (R : ℕ → IdList → Type 0) {r : Bool} (ns : List ℕ) (ls : List IdList) → length ns ≡ most_keys → length ls ≡ most_keys
    → MatchBool r (AllWithin (λ (p : ℕ × IdList). R p.0 p.1) (zip ns ls) 0 (length (zip ns ls)))
    ((k : ℕ) × (k < length (zip ns ls)) × HoldsAt (λ (p : ℕ × IdList). R p.0 p.1 → ⊥) (zip ns ls) k)
    → Tested r ((i : ℕ) → i < most_keys → R (get_or ns i 0) (get_or ls i past))
tested_pairs R ns ls n l m =
    let z = length-zip ns ls in
    tested_match m
    (λ p i h.
    subst (λ (q : ℕ × IdList). R q.0 q.1) (get_or-zip ns ls i (0, past) (omega arith) (omega arith)) (p i (0, past) (omega arith) (omega (arith, z))))
    (λ q t.
    let h : q.0 < most_keys = omega (arith, z, q.1) in
    subst (λ (q : ℕ × IdList). R q.0 q.1 → ⊥) (get_or-zip ns ls q.0 (0, past) (omega arith) (omega arith)) (q.2 (0, past)) (t q.0 h))

-- of each list from a place on
pub tested_from : (R : IdList → Type 0) {r : Bool} (from : ℕ) (ls : List IdList) → length ls ≡ most_keys → from ≤ most_keys
    → MatchBool r (AllWithin R (drop from ls) 0 (length (drop from ls)))
    ((k : ℕ) × (k < length (drop from ls)) × HoldsAt (λ l. R l → ⊥) (drop from ls) k)
    → Tested r ((i : ℕ) → i < most_keys → from ≤ i → R (get_or ls i past))
tested_from R from ls n f m =
    let z = length-drop from ls in
    tested_match m
    (λ p i h g.
    let e : from + (i - from) ≡ i = omega arith in
    subst R (get_or-drop from ls (i - from) past ∙ ap (λ (k : ℕ). get_or ls k past) e) (p (i - from) past (omega arith) (omega (arith, z))))
    (λ q t.
    let h : from + q.0 < most_keys = omega (arith, z, q.1) in
    subst (λ l. R l → ⊥) (get_or-drop from ls q.0 past) (q.2 past) (t (from + q.0) h (omega arith)))

-- ---- an array with its values from a place on moved one place further or nearer

module _ {A : Type 0} (xs : List A) (at n : ℕ) (v : A) where
  pub opened_by : at + 1 + n ≡ length xs → set (paste xs (at + 1) (drop at xs) n) at v ≡ opened at v xs
  unfolding opened
  opened_by e =
      let moved : List A = take n (drop at xs) in
      let l : length (take (at + 1) xs) ≡ at + 1 = length-take-le (at + 1) xs (omega arith) in
      let k : length (take at xs) ≡ at = length-take-le at xs (omega arith) in
      let whole : paste xs (at + 1) (drop at xs) n ≡ take (at + 1) xs ++ moved =
      ap (λ (r : List A). take (at + 1) xs ++ moved ++ r) (drop_of_length-le xs {i = at + 1 + n} (omega arith)) ∙ append-nil (take (at + 1) xs ++ moved) in
      ap (λ (r : List A). set r at v) whole
      ∙ set_split (take (at + 1) xs ++ moved) at v (omega (arith, length-append (take (at + 1) xs) moved, l))
      ∙ ap₂ (λ (a b : List A). a ++ v ∷ b)
      (take-append-le at (take (at + 1) xs) moved (omega arith) ∙ take-take at (at + 1) xs (omega arith))
      (drop_at (take (at + 1) xs) moved (suc at) (l ∙ add-one at))
      ∙ sym (take-append-add (take at xs) (v ∷ drop at xs) (suc n))
      ∙ ap (λ (m : ℕ). take m (take at xs ++ v ∷ drop at xs)) (omega arith)

  pub shut_by : at + 1 + n ≡ length xs → set (paste xs at (drop (at + 1) xs) n) (at + n) v ≡ shut at v xs
  unfolding shut
  shut_by e =
      let rest : List A = drop (at + 1) xs in
      let z = length-drop (at + 1) xs in
      let front : take n rest ≡ drop (suc at) xs = take_all n rest (omega arith) ∙ rw (add-one at) refl in
      let p : length (take at xs ++ take n rest) ≡ at + n =
      length-append (take at xs) (take n rest) ∙ ap₂ ◌+◌ (length-take-le at xs (omega arith)) (length-take-le n rest (omega arith)) in
      ap (λ (r : List A). set (take at xs ++ take n rest ++ r) (at + n) v)
      (drop-cons xs (at + n) v (omega arith) ∙ ap (λ (r : List A). get_or xs (at + n) v ∷ r) (drop_of_length-le xs {i = suc (at + n)} (omega arith)))
      ∙ set_at (take at xs ++ take n rest) (get_or xs (at + n) v) [] v (at + n) p
      ∙ ap (λ (r : List A). take at xs ++ r ++ v ∷ []) front
