-- Laws of a list with a field's identifiers added. In order: one turn of the loop over them; on the stored form of a list.
use Prim.Native.Nat.{ℕ, zero, suc, ◌+◌, ◌-◌, ◌<◌, ◌≤◌}
use native.Mathlib.Numerals.{add-one}
use native.Mathlib.Omega.{arith}
use mathlib.Core.Path.{◌≡◌, refl, sym, ap, ap₂, ◌∙◌}
use mathlib.Core.Bool.{Bool, true, false, cond}
use mathlib.Core.List.{List, [], ◌∷◌, ◌++◌}
use Rattle.std.specs.Prelude.{Option, Some, None}
use lib.ListN.{length, replicate, length-append}
use lib.Dec.{ltb, leb}
use borrow.Author.Tests.{lt-ltb, le-ltb, le-leb, lt-leb, ltb-true, ltb-false}
use Rattle.rules.specs.Arrays.{padded}
use Rattle.rules.specs.Field.{Pair, pair, named_by, pairs_of, number_in, kind_in}
use Rattle.rules.specs.Family.{member, added, added_all, extended, opening}
use Rattle.rules.specs.Collecting.{linkage, IdSet, join_names, brings, most_ids}
use Rattle.rules.proofs.FamilyLaws.{added_all_grows, length_added_all, added_new}
use Rattle.rules.proofs.Basics.{cases_bool}
use Rattle.rules.proofs.TableRules.{lawful, join_zero}
use Rattle.rules.proofs.Arrays.{set_column}
use Rattle.field.specs.declared.Field.{Field}
use Rattle.field.specs.declared.Identifier.{Identifier}
use Rattle.field.specs.FieldStep.{identifier_at, pair_of, meaning, pairs_from}
use Rattle.field.proofs.Laws.{InBody, pairs_count, pairs_all, pairs_none, pairs_step}
use Rattle.lists.specs.declared.IdList.{IdList}
use Rattle.lists.specs.Stored.{store_list, empty_list, pairs_in}
use Rattle.lists.specs.Grown.{put, grown, field_pairs, renamed, with_field}
use Rattle.lists.proofs.StoredLaws.{pairs_in_store}

-- ---- one turn of the loop

module _ (body : List ℕ) (f : Field) (count i : ℕ) (l : IdList) where
  fields_turn : i < count → field_pairs body f i (count - i) ≡ pair_of (identifier_at body f i) ∷ field_pairs body f (i + 1) (count - (i + 1))
  unfolding field_pairs
  fields_turn h =
      let e : count - i ≡ suc (count - (i + 1)) = omega arith in
      ap (field_pairs body f i) e

  -- the i-th identifier, by its kind and its number
  module _ (id : Identifier) (k n : ℕ) (e : id ≡ identifier_at body f i) (p : k ≡ (pair_of id).kind) (q : n ≡ (pair_of id).number) where
    is_pair : pair k n ≡ pair_of (identifier_at body f i)
    unfolding pair
    is_pair = ap₂ pair (p ∙ ap (λ (x : Identifier). (pair_of x).kind) e) (q ∙ ap (λ (x : Identifier). (pair_of x).number) e)

    stands : (b : Bool) → b ≡ member linkage (pair k n) (pairs_in l.kinds l.numbers l.len)
        → member linkage (pair_of (identifier_at body f i)) (pairs_in l.kinds l.numbers l.len) ≡ b
    stands b m = sym (m ∙ ap (λ (x : Pair). member linkage x (pairs_in l.kinds l.numbers l.len)) is_pair)

    pub grown_there : (b : Bool) → b ≡ member linkage (pair k n) (pairs_in l.kinds l.numbers l.len) → b ≡ true → i < count
        → grown l (field_pairs body f (i + 1) (count - (i + 1))) ≡ grown l (field_pairs body f i (count - i))
    unfolding grown
    grown_there b m t h = sym (ap (grown l) (fields_turn h) ∙ rw (stands b m ∙ t))

    pub grown_put : (b : Bool) → b ≡ member linkage (pair k n) (pairs_in l.kinds l.numbers l.len) → b ≡ false → i < count → l.len < most_ids
        → grown (put l (pair k n)) (field_pairs body f (i + 1) (count - (i + 1))) ≡ grown l (field_pairs body f i (count - i))
    unfolding grown
    grown_put b m t h g =
        ap (λ (x : Pair). grown (put l x) (field_pairs body f (i + 1) (count - (i + 1)))) is_pair
        ∙ sym (ap (grown l) (fields_turn h) ∙ rw (stands b m ∙ t, lt-ltb l.len most_ids g))

    pub grown_full : (b : Bool) → b ≡ member linkage (pair k n) (pairs_in l.kinds l.numbers l.len) → b ≡ false → i < count → most_ids ≤ l.len
        → grown l (field_pairs body f i (count - i)) ≡ None
    unfolding grown
    grown_full b m t h g = ap (grown l) (fields_turn h) ∙ rw (stands b m ∙ t, le-ltb l.len most_ids g)

  pub grown_end : count ≤ i → grown l (field_pairs body f i (count - i)) ≡ Some l
  unfolding grown field_pairs
  grown_end h =
      let e : count - i ≡ 0 = omega arith in
      ap (λ (n : ℕ). grown l (field_pairs body f i n)) e

-- what the loop made is the list with the field
pub with_field_is : (l : IdList) (body : List ℕ) (f : Field) (named m : ℕ) (g : Option IdList) → m ≡ named_by f.qualifier → named ≡ join_names l.named m
    → grown (renamed l named) (field_pairs body f 0 f.count) ≡ g → g ≡ with_field l body f
unfolding with_field
with_field_is l body f named m g p q e =
    sym e ∙ ap (λ (n : ℕ). grown (renamed l n) (field_pairs body f 0 f.count)) (q ∙ ap (join_names l.named) p)

pub grown_first : (l : IdList) (body : List ℕ) (f : Field) (n : ℕ) → grown l (field_pairs body f 0 (n - 0)) ≡ grown l (field_pairs body f 0 n)
grown_first l body f n =
    let e : n - 0 ≡ n = omega arith in
    ap (λ (m : ℕ). grown l (field_pairs body f 0 m)) e

pub grown_from : (l m : IdList) (ps : List Pair) (g : Option IdList) → l ≡ m → grown m ps ≡ g → grown l ps ≡ g
grown_from l m ps g e h = ap (λ (x : IdList). grown x ps) e ∙ h

-- ---- on the stored form of a list

put_store : (xs : List Pair) (named : ℕ) (p : Pair) → length xs < most_ids
    → put (store_list (record { items = xs; named = named })) p ≡ store_list (record { items = xs ++ p ∷ []; named = named })
unfolding put store_list number_in kind_in
put_store xs named p h =
    let ns = set_column number_in most_ids (length xs) 0 xs p refl refl refl h in
    let ks = set_column kind_in most_ids (length xs) 0 xs p refl refl refl h in
    let len : length xs + 1 ≡ length (xs ++ p ∷ []) = sym (length-append xs (p ∷ [])) in
    λ i. record { numbers = ns i; kinds = ks i; len = len i; named = named }

-- adding to a stored list is adding to its items, unless they become too many
pub grown_store : (ps xs : List Pair) (named : ℕ) → length xs ≤ most_ids
    → grown (store_list (record { items = xs; named = named })) ps
    ≡ cond (leb (length (added_all linkage xs ps)) most_ids) (Some (store_list (record { items = added_all linkage xs ps; named = named }))) None
unfolding grown added_all store_list
grown_store [] xs named h = rw (le-leb (length xs) most_ids h)
grown_store (p ∷ ps) xs named h =
    cases_bool (member linkage p xs)
    (λ t. rw (pairs_of, t, added_there t) (grown_store ps xs named h))
    (λ n. rw (pairs_of, n, added_new linkage lawful xs p n)
    (cases_bool (ltb (length xs) most_ids)
    (λ l. rw (l, put_store xs named p (ltb-true (length xs) most_ids l)) (grown_store ps (xs ++ p ∷ []) named (rw (length-append xs (p ∷ [])) (omega (arith, ltb-true (length xs) most_ids l)))))
    (λ f.
    let g = added_all_grows linkage (xs ++ p ∷ []) ps in
    let long : most_ids < length (added_all linkage (xs ++ p ∷ []) ps) =
    rw (g.1, length-append (xs ++ p ∷ []) g.0, length-append xs (p ∷ [])) (omega (arith, ltb-false (length xs) most_ids f)) in
    rw (f, lt-leb (length (added_all linkage (xs ++ p ∷ []) ps)) most_ids long))))
  where
    pairs_of : pairs_in (store_list (record { items = xs; named = named })).kinds (store_list (record { items = xs; named = named })).numbers (store_list (record { items = xs; named = named })).len ≡ xs
    pairs_of = pairs_in_store (record { items = xs; named = named })

    added_there : member linkage p xs ≡ true → added linkage xs p ≡ xs
    added_there t = unfold added in rw t

-- the identifiers of a field, one by one, are its pairs
pairs_from_law : (body : List ℕ) (f : Field) → InBody body f → (f.qualifier ≡ 2 → ⊥) → (i n : ℕ) → i + n ≡ f.count → field_pairs body f i n ≡ pairs_from body f i
unfolding field_pairs
pairs_from_law body f r q i zero e = sym (pairs_none body f i (omega arith))
pairs_from_law body f r q i (suc n) e =
    ap (λ (ps : List Pair). pair_of (identifier_at body f i) ∷ ps) (pairs_from_law body f r q (i + 1) n (omega arith) ∙ ap (pairs_from body f) (add-one i))
    ∙ sym (pairs_step body f r i (omega arith) q)

pub field_pairs_law : (body : List ℕ) (f : Field) → InBody body f → (f.qualifier ≡ 2 → ⊥) → field_pairs body f 0 f.count ≡ pairs_of (meaning body f)
field_pairs_law body f r q = pairs_from_law body f r q 0 f.count (omega arith) ∙ pairs_all body f

-- ---- a field added to a stored list, and to none

none_named : (k : ℕ) → renamed empty_list (join_names empty_list.named (named_by k)) ≡ store_list (record { items = []; named = named_by k })
unfolding renamed empty_list store_list padded
none_named k = ap (λ (n : ℕ). record { numbers = replicate most_ids 0; kinds = replicate most_ids 0; len = 0; named = n }) (join_zero (named_by k))

module _ (body : List ℕ) (f : Field) (r : InBody body f) (q : f.qualifier ≡ 2 → ⊥) where
  -- a continuation: the list extended, or dropped where it would be too long
  pub with_store : (l : IdSet) → length l.items ≤ most_ids
      → with_field (store_list l) body f
      ≡ cond (leb (length (extended linkage l (brings (meaning body f))).items) most_ids) (Some (store_list (extended linkage l (brings (meaning body f))))) None
  unfolding with_field extended brings renamed store_list meaning
  with_store l h =
      ap (grown (store_list (record { items = l.items; named = join_names l.named (named_by f.qualifier) }))) (field_pairs_law body f r q)
      ∙ grown_store (pairs_of (meaning body f)) l.items (join_names l.named (named_by f.qualifier)) h

  -- a start: a new list with its identifiers
  pub with_none : with_field empty_list body f ≡ Some (store_list (opening linkage (brings (meaning body f))))
  unfolding with_field opening brings renamed meaning
  with_none =
      let few : length (added_all linkage [] (pairs_of (meaning body f))) ≤ most_ids =
      omega (arith, length_added_all linkage [] (pairs_of (meaning body f)), pairs_count body f, r.count) in
      let new : grown (store_list (record { items = []; named = named_by f.qualifier })) (pairs_of (meaning body f))
      ≡ Some (store_list (record { items = added_all linkage [] (pairs_of (meaning body f)); named = named_by f.qualifier })) =
      grown_store (pairs_of (meaning body f)) [] (named_by f.qualifier) (omega arith) ∙ rw (le-leb _ most_ids few) in
      ap₂ grown (none_named f.qualifier) (field_pairs_law body f r q) ∙ new
