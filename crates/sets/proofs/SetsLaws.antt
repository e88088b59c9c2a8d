-- Laws of the stored form of a table. In order: flags; what is read off a stored table (`SetsFacts`, `stored_facts`); that these
-- facts are enough (`facts_stored`).
use Prim.Native.Nat.{ℕ, zero, suc, ◌-◌, ◌<◌, ◌≤◌, suc-le-suc}
use native.Mathlib.Omega.{arith}
use mathlib.Core.Path.{◌≡◌, refl, sym, ap, ap₂, ◌∙◌, subst}
use mathlib.Core.Bool.{Bool, true, false, not, ◌&&◌}
use mathlib.Core.List.{List, [], ◌∷◌, map}
use mathlib.Core.Option.{Option, none, some}
use lib.ListN.{length, get_or, take, drop, replicate, length-drop, length-map}
use lib.Dec.{ltb, eqb}
use borrow.Author.Tests.{ltb-true, ltb-false, eqb-true, eq-eqb}
use Rattle.rules.specs.Arrays.{padded}
use Rattle.rules.specs.Collecting.{IdSet, Held, Entries, is_key, number_meets, sets_meet, ascends, entries_meet, entry_meets, if_there, most_keys}
use Rattle.rules.proofs.Basics.{cases_bool, and_left, and_right}
use Rattle.rules.proofs.Arrays.{take_padded, drop_padded, get_d_past, same_padded, same_from, tabulate, length-tabulate, map_tabulate}
use Rattle.rules.proofs.Entries.{column_at}
use Rattle.rules.proofs.Numbers.{unshown_number}
use Rattle.rules.proofs.TableRules.{entry_rules, TableRules, table_rules}
use Rattle.lists.specs.declared.IdList.{IdList}
use Rattle.lists.specs.Stored.{empty_list, store_maybe, all_zero, Holds}
use Rattle.lists.proofs.StoredLaws.{zeros_padded, padded_zeros, stored_some, list_of, list_of_holds, holds_none, empty_by}
use Rattle.sets.specs.declared.Sets.{Sets}
use Rattle.sets.specs.Stored.{key_in, on_in, confirmed_in, shown_in, draft_in, store_sets, past, EachHolds, NoneFrom, NumbersHold, SetsStored}
use Rattle.sets.specs.Places.{keys_meet, all_off}
use Rattle.sets.proofs.Entries.{no_entry, entry_at_law}

-- ---- flags

all_off_replicate : (n : ℕ) → all_off (replicate n false) ≡ true
all_off_replicate zero = refl
all_off_replicate (suc n) = all_off_replicate n

off_value : (b : Bool) → not b ≡ true → b ≡ false
off_value true e = sym e
off_value false e = refl

offs_replicate : (xs : List Bool) → all_off xs ≡ true → xs ≡ replicate (length xs) false
offs_replicate [] e = refl
offs_replicate (x ∷ xs) e = ap₂ ◌∷◌ (off_value x (and_left (not x) (all_off xs) e)) (offs_replicate xs (and_right (not x) (all_off xs) e))

-- ---- what is read off a stored table

pub record SetsFacts (t : Sets) : Type 0 where
  pub short : t.count ≤ most_keys
  pub keys_meet_law : keys_meet 0 (take t.count t.keys) ≡ true
  pub keys_end : all_zero (drop t.count t.keys) ≡ true
  pub on_end : all_off (drop t.count t.on) ≡ true
  pub shown_hold : EachHolds t.keys t.shown
  pub shown_end : NoneFrom t.count t.shown
  pub numbers_hold : NumbersHold t.confirmed t.shown
  pub draft_hold : EachHolds t.keys t.draft
  pub draft_end : NoneFrom t.count t.draft

-- ascending keys and entries that meet the rules, as one test of the keys
keys_of : (last : ℕ) (c : Entries) → ascends last c ≡ true → entries_meet c ≡ true → keys_meet last (map key_in c) ≡ true
unfolding ascends entries_meet keys_meet
keys_of last [] a m = refl
keys_of last (e ∷ c) a m =
    let f = (entry_rules e).0 (and_left (entry_meets e) (entries_meet c) m) in
    rw (and_left (ltb last e.key) (ascends e.key c) a, f.key)
    (keys_of e.key c (and_right (ltb last e.key) (ascends e.key c) a) (and_right (entry_meets e) (entries_meet c) m))

-- a list of each entry, by places: `f` is shown_in or draft_in
module _ (f : Held → IdList) (c : Entries) (i : ℕ) (h : i < most_keys) where
  no_list_law : length c ≤ i → get_or (padded most_keys empty_list (map f c)) i past ≡ empty_list
  no_list_law g = get_d_past most_keys empty_list past (map f c) i (rw (length-map c f) g) h

  none_from : length c ≤ i → (get_or (padded most_keys empty_list (map f c)) i past).len ≡ 0
  unfolding empty_list
  none_from g = ap (λ (l : IdList). l.len) (no_list_law g)

  each_holds : ((e : Held) → entry_meets e ≡ true → Holds e.key (f e)) → entries_meet c ≡ true
      → Holds (get_or (padded most_keys 0 (map key_in c)) i 0) (get_or (padded most_keys empty_list (map f c)) i past)
  each_holds holds m =
      cases_bool (ltb i (length c))
      (λ b.
      let l = ltb-true i (length c) b in
      rw (column_at key_in most_keys 0 c i 0 no_entry l, column_at f most_keys empty_list c i past no_entry l) (holds _ (entry_at_law c m i l)))
      (λ b. rw (no_list_law (ltb-false i (length c) b)) (holds_none _))

shown_holds : (e : Held) → entry_meets e ≡ true → Holds e.key (shown_in e)
unfolding Holds shown_in
shown_holds e m = (e.shown, ((entry_rules e).0 m).shown, refl)

draft_holds : (e : Held) → entry_meets e ≡ true → Holds e.key (draft_in e)
unfolding Holds draft_in
draft_holds e m = (e.draft, ((entry_rules e).0 m).draft, refl)

-- a number beside each list
unshown : (k : ℕ) (o : Option IdSet) (n : ℕ) → if_there k o ≡ true → number_meets o n ≡ true → (store_maybe o).len ≡ 0 → n ≡ 0
unshown k none n a b c = unshown_number n b
unshown k (some l) n a b c = absurd (stored_some k l a c)

no_number : (e : Held) → entry_meets e ≡ true → (shown_in e).len ≡ 0 → confirmed_in e ≡ 0
unfolding shown_in confirmed_in
no_number e m z = let r = (entry_rules e).0 m in unshown e.key e.shown e.stamp r.shown r.number z

numbers_of_law : (c : Entries) → entries_meet c ≡ true → NumbersHold (padded most_keys 0 (map confirmed_in c)) (padded most_keys empty_list (map shown_in c))
unfolding NumbersHold
numbers_of_law c m i h =
    cases_bool (ltb i (length c))
    (λ b.
    let l = ltb-true i (length c) b in
    rw (column_at confirmed_in most_keys 0 c i 0 no_entry l, column_at shown_in most_keys empty_list c i past no_entry l) (no_number _ (entry_at_law c m i l)))
    (λ b z. get_d_past most_keys 0 0 (map confirmed_in c) i (rw (length-map c confirmed_in) (ltb-false i (length c) b)) h)

store_facts : (c : Entries) → TableRules c → SetsFacts (store_sets c)
unfolding store_sets EachHolds NoneFrom
store_facts c f =
    record {
      short = f.short;
      keys_meet_law = ap (keys_meet 0) (take_padded most_keys 0 (map key_in c) (length c) (length-map c key_in)) ∙ keys_of 0 c f.ascend f.entries;
      keys_end = subst (λ (m : ℕ). all_zero (drop m (padded most_keys 0 (map key_in c))) ≡ true) (length-map c key_in) (padded_zeros most_keys (map key_in c));
      on_end = ap all_off (drop_padded most_keys false (map on_in c) (length c) (length-map c on_in)) ∙ all_off_replicate (most_keys - length c);
      shown_hold = λ i h. each_holds shown_in c i h shown_holds f.entries;
      shown_end = none_from shown_in c;
      numbers_hold = numbers_of_law c f.entries;
      draft_hold = λ i h. each_holds draft_in c i h draft_holds f.entries;
      draft_end = none_from draft_in c;
    }

pub stored_facts : (t : Sets) → SetsStored t → SetsFacts t
unfolding SetsStored
stored_facts t s = subst SetsFacts (sym s.2) (store_facts s.0 ((table_rules s.0).0 s.1))

-- ---- these facts are enough

-- the test of the first key, and of the others
test_first : (last : ℕ) (e : Held) (c : Entries) → keys_meet last (map key_in (e ∷ c)) ≡ true
    → (ltb last e.key ≡ true) × (is_key e.key ≡ true) × (keys_meet e.key (map key_in c) ≡ true)
unfolding keys_meet
test_first last e c m =
    let a = ltb last e.key in
    let b = is_key e.key in
    let ab = and_left (a && b) (keys_meet e.key (map key_in c)) m in
    (and_left a b ab, and_right a b ab, and_right (a && b) (keys_meet e.key (map key_in c)) m)

ascends_by : (last : ℕ) (c : Entries) → keys_meet last (map key_in c) ≡ true → ascends last c ≡ true
unfolding ascends keys_meet
ascends_by last [] m = refl
ascends_by last (e ∷ c) m =
    let t = test_first last e c m in
    rw t.0 (ascends_by e.key c t.2)

-- an entry's lists meet the rules for its key, and its number is one beside what it shows
abbrev Listed : Held → Type 0
Listed e = (if_there e.key e.shown ≡ true) × (if_there e.key e.draft ≡ true) × (number_meets e.shown e.stamp ≡ true)

-- those of each entry
abbrev ListsMeet : Entries → Type 0
ListsMeet [] = Unit {0}
ListsMeet (e ∷ c) = Listed e × ListsMeet c

lists_by : (n : ℕ) (g : ℕ → Held) → ((k : ℕ) → k < n → Listed (g k)) → ListsMeet (tabulate n g)
unfolding tabulate
lists_by zero g h = tt
lists_by (suc n) g h = (h zero (omega arith), lists_by n (λ k. g (suc k)) (λ k l. h (suc k) (suc-le-suc l)))

entries_by : (last : ℕ) (c : Entries) → keys_meet last (map key_in c) ≡ true → ListsMeet c → entries_meet c ≡ true
unfolding entries_meet keys_meet
entries_by last [] m l = refl
entries_by last (e ∷ c) m l =
    let t = test_first last e c m in
    rw ((entry_rules e).1 (record { number = l.0.2; key = t.1; shown = l.0.0; draft = l.0.1 })) (entries_by e.key c t.2 l.1)

-- beside a list as it is read off
number_by : (l : IdList) (n : ℕ) → (l.len ≡ 0 → n ≡ 0) → number_meets (list_of l) n ≡ true
unfolding number_meets list_of
number_by l n h = cases_bool (eqb l.len 0) (λ b. rw b (eq-eqb n 0 (h (eqb-true l.len 0 b)))) (λ b. rw b)

module _ (t : Sets) (f : SetsFacts t)
    (keys-long : length t.keys ≡ most_keys) (on-long : length t.on ≡ most_keys) (confirmed-long : length t.confirmed ≡ most_keys) (shown-long : length t.shown ≡ most_keys) (draft-long : length t.draft ≡ most_keys) where
  -- the entry at a place
  entry_at : ℕ → Held
  entry_at k =
      record {
        key = get_or t.keys k 0;
        state = get_or t.on k false;
        shown = list_of (get_or t.shown k past);
        draft = list_of (get_or t.draft k past);
        stamp = get_or t.confirmed k 0;
      }

  content_of : Entries
  content_of = tabulate t.count entry_at

  keys_are : map key_in content_of ≡ take t.count t.keys
  unfolding content_of entry_at
  keys_are = map_tabulate key_in t.count entry_at 0 t.keys (omega (arith, f.short)) (λ k h. refl)

  on_are : map on_in content_of ≡ take t.count t.on
  unfolding content_of entry_at on_in
  on_are = map_tabulate on_in t.count entry_at false t.on (omega (arith, f.short)) (λ k h. refl)

  confirmed_are : map confirmed_in content_of ≡ take t.count t.confirmed
  unfolding content_of entry_at confirmed_in
  confirmed_are = map_tabulate confirmed_in t.count entry_at 0 t.confirmed (omega (arith, f.short)) (λ k h. refl)

  shown_are : map shown_in content_of ≡ take t.count t.shown
  unfolding content_of entry_at shown_in EachHolds
  shown_are =
      map_tabulate shown_in t.count entry_at past t.shown (omega (arith, f.short))
      (λ k h. (list_of_holds _ _ (f.shown_hold k (omega (arith, f.short)))).1)

  draft_are : map draft_in content_of ≡ take t.count t.draft
  unfolding content_of entry_at draft_in EachHolds
  draft_are =
      map_tabulate draft_in t.count entry_at past t.draft (omega (arith, f.short))
      (λ k h. (list_of_holds _ _ (f.draft_hold k (omega (arith, f.short)))).1)

  length_content : length content_of ≡ t.count
  unfolding content_of
  length_content = length-tabulate t.count entry_at

  lists_end : (ls : List IdList) → length ls ≡ most_keys → EachHolds t.keys ls → NoneFrom t.count ls → ls ≡ padded most_keys empty_list (take t.count ls)
  unfolding EachHolds NoneFrom
  lists_end ls l h n =
      same_padded most_keys t.count empty_list ls l f.short
      (same_from most_keys t.count empty_list past ls l f.short (λ i a b. empty_by _ _ (h i a) (n i a b)))

  on_rest : drop t.count t.on ≡ replicate (most_keys - t.count) false
  on_rest = offs_replicate (drop t.count t.on) f.on_end ∙ ap (λ (k : ℕ). replicate k false) (length-drop t.count t.on ∙ ap (λ (m : ℕ). m - t.count) on-long)

  confirmed_end : t.confirmed ≡ padded most_keys 0 (take t.count t.confirmed)
  confirmed_end =
      same_padded most_keys t.count 0 t.confirmed confirmed-long f.short
      (same_from most_keys t.count 0 0 t.confirmed confirmed-long f.short (λ i a b. unfold NumbersHold NoneFrom in f.numbers_hold i a (f.shown_end i a b)))

  is_stored : t ≡ store_sets content_of
  unfolding store_sets
  is_stored =
      let ks : t.keys ≡ padded most_keys 0 (map key_in content_of) = zeros_padded most_keys t.count t.keys keys-long f.short f.keys_end ∙ ap (padded most_keys 0) (sym keys_are) in
      let os : t.on ≡ padded most_keys false (map on_in content_of) = same_padded most_keys t.count false t.on on-long f.short on_rest ∙ ap (padded most_keys false) (sym on_are) in
      let ps : t.confirmed ≡ padded most_keys 0 (map confirmed_in content_of) = confirmed_end ∙ ap (padded most_keys 0) (sym confirmed_are) in
      let ss : t.shown ≡ padded most_keys empty_list (map shown_in content_of) =
      lists_end t.shown shown-long f.shown_hold f.shown_end ∙ ap (padded most_keys empty_list) (sym shown_are) in
      let ds : t.draft ≡ padded most_keys empty_list (map draft_in content_of) =
      lists_end t.draft draft-long f.draft_hold f.draft_end ∙ ap (padded most_keys empty_list) (sym draft_are) in
      λ i. record { count = sym length_content i; keys = ks i; on = os i; confirmed = ps i; shown = ss i; draft = ds i }

  keys_ok : keys_meet 0 (map key_in content_of) ≡ true
  keys_ok = ap (keys_meet 0) keys_are ∙ f.keys_meet_law

  content_meets : sets_meet content_of ≡ true
  unfolding content_of entry_at EachHolds
  content_meets =
      (table_rules content_of).1
      (record {
        short = subst (λ (k : ℕ). k ≤ most_keys) (sym length_content) f.short;
        ascend = ascends_by 0 content_of keys_ok;
        entries = entries_by 0 content_of keys_ok
            (lists_by t.count entry_at (λ k h. (
              (list_of_holds _ _ (f.shown_hold k (omega (arith, f.short)))).0,
              (list_of_holds _ _ (f.draft_hold k (omega (arith, f.short)))).0,
              number_by (get_or t.shown k past) _ (unfold NumbersHold in f.numbers_hold k (omega (arith, f.short))),
            )));
      })

  pub facts_stored : SetsStored t
  unfolding SetsStored
  facts_stored = (content_of, content_meets, is_stored)
