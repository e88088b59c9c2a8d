-- Laws of the pairs that stand in two arrays. In order: how many there are; what they say of both; the first, and those from a place on; which one
-- stands at a place; what a test of each finds; whether one stands twice.
use Prim.Native.Nat.{ℕ, zero, suc, ◌+◌, ◌<◌, ◌≤◌, ◌^◌, min}
use native.Mathlib.Nat.{le_of_suc-le-suc, not-suc-le-zero}
use native.Mathlib.Numerals.{add-one}
use native.Mathlib.Omega.{arith}
use mathlib.Core.Path.{◌≡◌, refl, sym, ap, ap₂, ◌∙◌}
use mathlib.Core.Bool.{Bool, true, false, ◌&&◌, ◌||◌}
use mathlib.Core.List.{List, [], ◌∷◌, map}
use lib.ListN.{length, get_or, take, drop, length-take, drop_of_length-le}
use lib.Dec.{eqb, ltb}
use lib.Seq.{drop-cons, get_or-take}
use borrow.Author.Tests.{eqb-true, eqb-false, eq-eqb, ne_eqb}
use Rattle.std.specs.List.{zip, list_any, list_all}
use Rattle.std.proofs.lemmas.List.{take_min}
use Rattle.rules.specs.Field.{Pair, pair, number_in, kind_in}
use Rattle.rules.specs.Family.{member}
use Rattle.rules.specs.Collecting.{linkage, same_pair, pairs_meet, kind_named, all_differ}
use Rattle.rules.proofs.Basics.{cases_bool}
use Rattle.lists.specs.Stored.{paired, pairs_in}

-- ---- how many

pub length_paired : (ks ns : List ℕ) → length (paired ks ns) ≡ min (length ks) (length ns)
unfolding paired
length_paired [] ns = omega arith
length_paired (k ∷ ks) [] = omega arith
length_paired (k ∷ ks) (n ∷ ns) = omega (arith, length_paired ks ns)

pub length_pairs_in : (ks ns : List ℕ) (len : ℕ) → length (pairs_in ks ns len) ≡ min len (min (length ks) (length ns))
unfolding pairs_in
length_pairs_in ks ns len = rw (length-take, length_paired)

-- where there are as many kinds as numbers, the pairs say both
pub numbers_of_paired : (ks ns : List ℕ) → length ks ≡ length ns → map number_in (paired ks ns) ≡ ns
unfolding paired number_in pair
numbers_of_paired [] [] e = refl
numbers_of_paired [] (n ∷ ns) e = absurd (omega arith)
numbers_of_paired (k ∷ ks) [] e = absurd (omega arith)
numbers_of_paired (k ∷ ks) (n ∷ ns) e = ap (λ (r : List ℕ). n ∷ r) (numbers_of_paired ks ns (omega arith))

pub kinds_of_paired : (ks ns : List ℕ) → length ks ≡ length ns → map kind_in (paired ks ns) ≡ ks
unfolding paired kind_in pair
kinds_of_paired [] [] e = refl
kinds_of_paired [] (n ∷ ns) e = absurd (omega arith)
kinds_of_paired (k ∷ ks) [] e = absurd (omega arith)
kinds_of_paired (k ∷ ks) (n ∷ ns) e = ap (λ (r : List ℕ). k ∷ r) (kinds_of_paired ks ns (omega arith))

-- ---- the first, and those from a place on

paired_take : (n : ℕ) (ks ns : List ℕ) → paired (take n ks) (take n ns) ≡ take n (paired ks ns)
unfolding paired
paired_take zero ks ns = refl
paired_take (suc n) [] ns = refl
paired_take (suc n) (k ∷ ks) [] = refl
paired_take (suc n) (k ∷ ks) (x ∷ ns) = ap (λ (ps : List Pair). pair k x ∷ ps) (paired_take n ks ns)

paired_none : (ks : List ℕ) → paired ks [] ≡ []
unfolding paired
paired_none [] = refl
paired_none (k ∷ ks) = refl

pub paired_drop : (n : ℕ) (ks ns : List ℕ) → paired (drop n ks) (drop n ns) ≡ drop n (paired ks ns)
unfolding paired
paired_drop zero ks ns = refl
paired_drop (suc n) [] ns = refl
paired_drop (suc n) (k ∷ ks) [] = paired_none (drop n ks)
paired_drop (suc n) (k ∷ ks) (x ∷ ns) = paired_drop n ks ns

-- as many of both as there are, but no more than len
pub paired_first : (ks ns : List ℕ) (len end : ℕ) → end ≡ min len (length (paired ks ns)) → paired (take end ks) (take end ns) ≡ pairs_in ks ns len
unfolding pairs_in
paired_first ks ns len end e = paired_take end ks ns ∙ ap (λ (n : ℕ). take n (paired ks ns)) e ∙ take_min len (paired ks ns)

-- ---- which one stands at a place

get_d_paired : (ks ns : List ℕ) (i : ℕ) (d : Pair) → i < length ks → i < length ns → get_or (paired ks ns) i d ≡ pair (get_or ks i 0) (get_or ns i 0)
unfolding paired
get_d_paired [] ns i d h g = absurd (not-suc-le-zero h)
get_d_paired (k ∷ ks) [] i d h g = absurd (not-suc-le-zero g)
get_d_paired (k ∷ ks) (n ∷ ns) zero d h g = refl
get_d_paired (k ∷ ks) (n ∷ ns) (suc i) d h g = get_d_paired ks ns i d (le_of_suc-le-suc h) (le_of_suc-le-suc g)

get_d_pairs_in : (ks ns : List ℕ) (len i : ℕ) → i < min len (min (length ks) (length ns)) → get_or (pairs_in ks ns len) i (pair 0 0) ≡ pair (get_or ks i 0) (get_or ns i 0)
unfolding pairs_in
get_d_pairs_in ks ns len i h = get_or-take len (paired ks ns) i (pair 0 0) (omega arith) ∙ get_d_paired ks ns i (pair 0 0) (omega arith) (omega arith)

-- the pairs from a place on begin with the one that stands there
pub drop_pairs : (ks ns : List ℕ) (len i : ℕ) → i < min len (min (length ks) (length ns))
    → drop i (pairs_in ks ns len) ≡ pair (get_or ks i 0) (get_or ns i 0) ∷ drop (suc i) (pairs_in ks ns len)
drop_pairs ks ns len i h =
    drop-cons (pairs_in ks ns len) i (pair 0 0) (rw length_pairs_in h)
    ∙ ap (λ (p : Pair). p ∷ drop (suc i) (pairs_in ks ns len)) (get_d_pairs_in ks ns len i h)

-- from the end on there is none
pub drop_pairs_end : (ks ns : List ℕ) (len i : ℕ) → min len (min (length ks) (length ns)) ≤ i → drop i (pairs_in ks ns len) ≡ []
drop_pairs_end ks ns len i h = drop_of_length-le (pairs_in ks ns len) {i = i} (rw length_pairs_in h)

-- ---- what a test of each finds

eqb_sym : (a b : ℕ) → eqb a b ≡ eqb b a
eqb_sym a b =
    cases_bool (eqb a b)
    (λ e. e ∙ sym (eq-eqb b a (sym (eqb-true a b e))))
    (λ e. e ∙ sym (ne_eqb b a (λ q. eqb-false a b e (sym q))))

-- some pair is the one that is looked for
pub member_zip : (k n : ℕ) (ks ns : List ℕ) → list_any (λ (p : ℕ × ℕ). eqb p.0 k && eqb p.1 n) (zip ks ns) ≡ member linkage (pair k n) (paired ks ns)
unfolding member same_pair paired pair
member_zip k n [] ns = refl
member_zip k n (x ∷ ks) [] = refl
member_zip k n (x ∷ ks) (y ∷ ns) =
    ap₂ ◌||◌ (ap₂ ◌&&◌ (eqb_sym x k) (eqb_sym y n)) (member_zip k n ks ns)

-- every number is within a width, and every kind among the named
pub meet_zip : (w named : ℕ) (ks ns : List ℕ)
    → list_all (λ (p : ℕ × ℕ). ltb p.1 (256 ^ w) && kind_named named p.0) (zip ks ns) ≡ pairs_meet w named (paired ks ns)
unfolding pairs_meet paired pair
meet_zip w named [] ns = refl
meet_zip w named (x ∷ ks) [] = refl
meet_zip w named (x ∷ ks) (y ∷ ns) =
    ap (λ (b : Bool). ltb y (256 ^ w) && kind_named named x && b) (meet_zip w named ks ns)

-- ---- whether one stands twice

module _ (ks ns : List ℕ) (i : ℕ) where
  -- what is left answers for the whole
  abbrev pub Differ : ℕ → Type 0
  Differ j = all_differ (drop j (paired ks ns)) ≡ all_differ (paired ks ns)

  from_here : i < length (paired ks ns) → drop i (paired ks ns) ≡ pair (get_or ks i 0) (get_or ns i 0) ∷ drop (i + 1) (paired ks ns)
  from_here h =
      let long = length_paired ks ns in
      rw (add-one i)
      (drop-cons (paired ks ns) i (pair 0 0) h ∙ ap (λ (p : Pair). p ∷ drop (suc i) (paired ks ns)) (get_d_paired ks ns i (pair 0 0) (omega arith) (omega arith)))

  pub differ_next : i < length (paired ks ns) → member linkage (pair (get_or ks i 0) (get_or ns i 0)) (drop (i + 1) (paired ks ns)) ≡ false → Differ i → Differ (i + 1)
  unfolding all_differ
  differ_next h a e = sym (ap all_differ (from_here h) ∙ rw a) ∙ e

  pub differ_not : i < length (paired ks ns) → member linkage (pair (get_or ks i 0) (get_or ns i 0)) (drop (i + 1) (paired ks ns)) ≡ true → Differ i
      → false ≡ all_differ (paired ks ns)
  unfolding all_differ
  differ_not h a e = sym (ap all_differ (from_here h) ∙ rw a) ∙ e

  pub differ_end : length (paired ks ns) ≤ i → Differ i → true ≡ all_differ (paired ks ns)
  unfolding all_differ
  differ_end h e = sym (ap all_differ (drop_of_length-le (paired ks ns) {i = i} h)) ∙ e
