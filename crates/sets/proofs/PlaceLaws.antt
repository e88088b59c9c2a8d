-- What sets that are stored say of their content. In order: their count and keys; a key's place among them; one key less; how
-- long their lists are.
use Prim.Native.Nat.{ℕ, suc, ◌+◌, ◌-◌, ◌<◌, ◌≤◌}
use native.Mathlib.Omega.{arith}
use mathlib.Core.Path.{◌≡◌, sym, ap, ap₂, ◌∙◌, subst}
use mathlib.Core.Bool.{true, false, ◌&&◌}
use mathlib.Core.List.{List, ◌++◌, map}
use lib.ListN.{length, get_or, take, drop, length-map, length-append, length-drop}
use lib.Dec.{ltb, eqb}
use lib.Seq.{length-take-le}
use borrow.Author.Tests.{ltb-true, eqb-true, lt-ltb, eq-eqb}
use Rattle.rules.specs.Family.{forget}
use Rattle.rules.specs.Collecting.{linkage, Entries, most_keys, most_ids}
use Rattle.rules.proofs.Basics.{true-false, and_left, and_right, and_both}
use Rattle.rules.proofs.Arrays.{take_padded}
use Rattle.rules.proofs.TableRules.{lawful}
use Rattle.rules.proofs.Entries.{At, forget_here, column_at, column_shut}
use Rattle.lists.specs.declared.IdList.{IdList}
use Rattle.lists.specs.Stored.{empty_list}
use Rattle.lists.proofs.StoredLaws.{holds_facts, holds_long}
use Rattle.sets.specs.declared.Sets.{Sets}
use Rattle.sets.specs.Stored.{key_in, on_in, confirmed_in, shown_in, draft_in, store_sets, SetsStored, shut_sets, past, EachHolds}
use Rattle.sets.specs.Places.{place_in}
use Rattle.sets.proofs.SetsLaws.{stored_facts}
use Rattle.sets.proofs.Entries.{no_entry, Here}

-- ---- count and keys

module _ (t : Sets) (c : Entries) (e : t ≡ store_sets c) where
  pub count_of : t.count ≡ length c
  unfolding store_sets
  count_of = ap (λ (u : Sets). u.count) e

  pub keys_of : take t.count t.keys ≡ map key_in c
  unfolding store_sets
  keys_of = ap (λ (u : Sets). take u.count u.keys) e ∙ take_padded most_keys 0 (map key_in c) (length c) (length-map c key_in)

  pub key_at : (i : ℕ) → i < length c → get_or t.keys i 0 ≡ (get_or c i no_entry).key
  unfolding store_sets
  key_at i h = ap (λ (u : Sets). get_or u.keys i 0) e ∙ column_at key_in most_keys 0 c i 0 no_entry h

  -- ---- a key's place

  pub place_at : (k : ℕ) → place_in (take t.count t.keys) k ≡ place_in (map key_in c) k
  place_at k = ap (λ (ks : List ℕ). place_in ks k) keys_of

  module _ (at k : ℕ) (p : at ≡ place_in (take t.count t.keys) k) where
    is_place : at ≡ place_in (map key_in c) k
    is_place = p ∙ place_at k

    -- by the answer of `stands_at`
    pub stands : (ltb at t.count && eqb (get_or t.keys at 0) k) ≡ true → Here c k
    stands b =
        let l : at < length c = subst (λ (n : ℕ). at < n) count_of (ltb-true at t.count (and_left (ltb at t.count) _ b)) in
        subst (At linkage no_entry c k) is_place (l, sym (key_at at l) ∙ eqb-true _ _ (and_right (ltb at t.count) _ b))

    pub stands_not : (ltb at t.count && eqb (get_or t.keys at 0) k) ≡ false → Here c k → ⊥
    stands_not b h =
        let s = subst (At linkage no_entry c k) (sym is_place) h in
        let l : at < t.count = subst (λ (n : ℕ). at < n) (sym count_of) s.0 in
        true-false (and_both _ _ (lt-ltb at t.count l) (eq-eqb _ _ (key_at at s.0 ∙ s.1))) b

-- ---- one entry less

pub store_shut : (c : Entries) (i : ℕ) → i < length c → length c ≤ most_keys → shut_sets (store_sets c) i ≡ store_sets (take i c ++ drop (suc i) c)
unfolding store_sets shut_sets
store_shut c i h l =
    let n : length (take i c ++ drop (suc i) c) ≡ length c - 1 =
    length-append (take i c) (drop (suc i) c) ∙ ap₂ ◌+◌ (length-take-le i c (omega arith)) (length-drop (suc i) c) ∙ omega arith in
    let ks = column_shut key_in most_keys 0 c i h l in
    let os = column_shut on_in most_keys false c i h l in
    let ps = column_shut confirmed_in most_keys 0 c i h l in
    let ss = column_shut shown_in most_keys empty_list c i h l in
    let ds = column_shut draft_in most_keys empty_list c i h l in
    rw (lt-ltb i most_keys (omega arith), lt-ltb i (length c) h) (sym (λ j. record { count = n j; keys = ks j; on = os j; confirmed = ps j; shown = ss j; draft = ds j }))

-- the held key at its place forgotten
pub store_forgets : (t : Sets) (c : Entries) → t ≡ store_sets c → (k at : ℕ) → at ≡ place_in (take t.count t.keys) k → length c ≤ most_keys → Here c k
    → shut_sets t at ≡ store_sets (forget linkage k c)
store_forgets t c e k at p l h =
    ap₂ shut_sets e (p ∙ place_at t c e k) ∙ store_shut c (place_in (map key_in c) k) h.0 l ∙ ap store_sets (sym (forget_here linkage lawful no_entry c k h))

-- ---- their lists

pub stored_short : (t : Sets) → SetsStored t → t.count ≤ most_keys
stored_short t s = (stored_facts t s).short

-- the shown list at a place of a stored table: how long it is, and its arrays
pub record Roomy (l : IdList) : Type 0 where
  pub short : l.len ≤ most_ids
  pub numbers_long : length l.numbers ≡ most_ids
  pub kinds_long : length l.kinds ≡ most_ids

pub stored_shown : (t : Sets) → SetsStored t → (i : ℕ) → i < t.count → Roomy (get_or t.shown i past)
unfolding EachHolds
stored_shown t w i h =
    let s = stored_facts t w in
    let l = s.shown_hold i (omega (arith, s.short)) in
    record { short = (holds_facts _ _ l).short; numbers_long = (holds_long _ _ l).0; kinds_long = (holds_long _ _ l).1 }
