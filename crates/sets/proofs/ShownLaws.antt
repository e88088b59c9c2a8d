-- Laws of what a table shows. In order: what is said of the sets from a place on, and how many there are at most; of the sets
-- themselves; that the sets of a stored table, with their numbers and without, are those of its content.
use Prim.Native.Nat.{ℕ, zero, suc, ◌+◌, ◌-◌, ◌<◌, ◌≤◌, min}
use native.Mathlib.Numerals.{add-one}
use native.Mathlib.Omega.{arith}
use mathlib.Core.Path.{◌≡◌, refl, sym, ap, ◌∙◌}
use mathlib.Core.Bool.{Bool, true, false, not, cond}
use mathlib.Core.List.{List, [], ◌∷◌, map}
use mathlib.Core.Option.{Option, none, some}
use lib.ListN.{length, get_or, take, drop, drop_of_length-le}
use lib.Dec.{eqb}
use lib.Seq.{drop-cons}
use borrow.Author.Tests.{eq-eqb, ne_eqb}
use Rattle.std.specs.List.{filter}
use Rattle.rules.specs.Collecting.{IdSet, Held, Entries, sets_meet, if_there, shown_sets, Confirmed, confirming, confirmed_sets, most_keys}
use Rattle.rules.proofs.Basics.{cases_bool}
use Rattle.rules.proofs.TableRules.{set_rules, entry_rules, table_rules, bare_shown, confirmed_shown}
use Rattle.rules.proofs.Entries.{column_at}
use Rattle.lists.specs.declared.IdList.{IdList}
use Rattle.lists.specs.Stored.{store_list, store_maybe, empty_list}
use Rattle.lists.proofs.StoredLaws.{pairs_in_store, not_none}
use Rattle.sets.specs.declared.Sets.{Sets}
use Rattle.sets.specs.Stored.{key_in, on_in, confirmed_in, shown_in, store_sets, past}
use Rattle.sets.specs.Shown.{set_in, shown_as, shown_at, confirmed_at, shown_from, sets_from, confirmed_from, sets_in, confirmed_sets_in}
use Rattle.sets.proofs.Entries.{no_entry, entry_at_law}

-- ---- what is said of the sets from a place on, where `n` is the number of entries

module _ {A : Type 0} (f : Sets → ℕ → A) (t : Sets) (i n : ℕ) where
  from_here : i < n
      → shown_from f t i (n - i)
      ≡ cond (eqb (get_or t.shown i past).len 0) (shown_from f t (i + 1) (n - (i + 1))) (f t i ∷ shown_from f t (i + 1) (n - (i + 1)))
  unfolding shown_from
  from_here h =
      let e : n - i ≡ suc (n - (i + 1)) = omega arith in
      ap (shown_from f t i) e

  pub from_skip : i < n → (get_or t.shown i past).len ≡ 0 → shown_from f t i (n - i) ≡ shown_from f t (i + 1) (n - (i + 1))
  from_skip h z = from_here h ∙ rw (eq-eqb _ _ z)

  pub from_next : i < n → ((get_or t.shown i past).len ≡ 0 → ⊥) → shown_from f t i (n - i) ≡ f t i ∷ shown_from f t (i + 1) (n - (i + 1))
  from_next h z = from_here h ∙ rw (ne_eqb _ _ z)

  pub from_end : n ≤ i → shown_from f t i (n - i) ≡ []
  unfolding shown_from
  from_end h =
      let e : n - i ≡ 0 = omega arith in
      ap (shown_from f t i) e

-- all of them
pub from_all : {A : Type 0} (f : Sets → ℕ → A) (t : Sets) {n : ℕ} → n ≡ min t.count most_keys → shown_from f t 0 (n - 0) ≡ shown_from f t 0 (min t.count most_keys)
from_all f t {n} h =
    let e : n - 0 ≡ min t.count most_keys = omega arith in
    ap (shown_from f t 0) e

-- what is said of what is said
from_map : {A B : Type 0} (g : A → B) (f : Sets → ℕ → A) (t : Sets) (n i : ℕ) → shown_from (λ u j. g (f u j)) t i n ≡ map g (shown_from f t i n)
unfolding shown_from
from_map g f t zero i = refl
from_map g f t (suc n) i =
    let rest = from_map g f t n (i + 1) in
    cases_bool (eqb (get_or t.shown i past).len 0) (λ e. rw e rest) (λ e. rw e (ap (◌∷◌ (g (f t i))) rest))

-- there are no more than entries
from_most : {A : Type 0} (f : Sets → ℕ → A) (t : Sets) (n i : ℕ) → length (shown_from f t i n) ≤ n
unfolding shown_from
from_most f t zero i = omega arith
from_most f t (suc n) i =
    let rest : length (shown_from f t (i + 1) n) ≤ n = from_most f t n (i + 1) in
    cases_bool (eqb (get_or t.shown i past).len 0) (λ e. rw e (omega arith)) (λ e. rw e (omega arith))

-- ---- of the sets themselves

module _ (t : Sets) (i n : ℕ) where
  pub sets_skip : i < n → (get_or t.shown i past).len ≡ 0 → sets_from t i (n - i) ≡ sets_from t (i + 1) (n - (i + 1))
  sets_skip = from_skip shown_at t i n

  pub sets_next : i < n → ((get_or t.shown i past).len ≡ 0 → ⊥) → sets_from t i (n - i) ≡ shown_at t i ∷ sets_from t (i + 1) (n - (i + 1))
  sets_next = from_next shown_at t i n

  pub sets_end : n ≤ i → sets_from t i (n - i) ≡ []
  sets_end = from_end shown_at t i n

pub sets_all : (t : Sets) {n : ℕ} → n ≡ min t.count most_keys → sets_from t 0 (n - 0) ≡ sets_in t
unfolding sets_in
sets_all t h = from_all shown_at t h

pub sets_few : (t : Sets) → length (sets_in t) ≤ most_keys
unfolding sets_in
sets_few t = omega (arith, from_most shown_at t (min t.count most_keys) 0)

-- there are as many as lists that are not empty
pub sets_counted : (t : Sets) (n i : ℕ) → i + n ≤ length t.shown → length (filter (λ (l : IdList). not (eqb l.len 0)) (take n (drop i t.shown))) ≡ length (sets_from t i n)
unfolding shown_from
sets_counted t zero i h = refl
sets_counted t (suc n) i h =
    let rest = sets_counted t n (i + 1) (omega arith) in
    let here : drop i t.shown ≡ get_or t.shown i past ∷ drop (i + 1) t.shown = rw (add-one i) (drop-cons t.shown i past (omega arith)) in
    ap (λ ls. length (filter (λ (l : IdList). not (eqb l.len 0)) (take (suc n) ls))) here
    ∙ cases_bool (eqb (get_or t.shown i past).len 0) (λ e. rw e rest) (λ e. rw e (ap suc rest))

-- ---- the sets of a stored table

-- a stored set is the set
pub set_stored : (l : IdSet) → set_in (store_list l) ≡ l
unfolding set_in store_list
set_stored l = λ i. record { items = pairs_in_store l i; named = l.named }

-- a set with its number, in front of the others where there is one
unfoldable if_confirmed : ℕ → Bool → ℕ → IdList → List Confirmed → List Confirmed
if_confirmed key on n l rest = cond (eqb l.len 0) rest (record { shown = shown_as key on l; block = n } ∷ rest)

set_there : (e : Held) (o : Option IdSet) (rest : List Confirmed) → if_there e.key o ≡ true
    → if_confirmed e.key e.state e.stamp (store_maybe o) rest ≡ confirming e o rest
unfolding if_confirmed shown_as store_maybe empty_list if_there confirming store_list
set_there e none rest m = refl
set_there e (some l) rest m =
    rw (ne_eqb (length l.items) 0 (not_none l.items ((set_rules e.key l).0 m).some))
    (ap (λ (s : IdSet). record { shown = record { key = e.key; on = e.state; set = s }; block = e.stamp } ∷ rest) (set_stored l))

module _ (c : Entries) (m : sets_meet c ≡ true) where
  confirmed_after : (n i : ℕ) → i + n ≡ length c → confirmed_from (store_sets c) i n ≡ confirmed_sets (drop i c)
  unfolding shown_from confirmed_sets store_sets on_in confirmed_in shown_in if_confirmed
  confirmed_after zero i e = sym (ap confirmed_sets (drop_of_length-le c {i = i} (omega arith)))
  confirmed_after (suc n) i e =
      let h : i < length c = omega arith in
      let f = get_or c i no_entry in
      let rest = confirmed_after n (i + 1) (omega arith) in
      let here : drop i c ≡ f ∷ drop (i + 1) c = rw (add-one i) (drop-cons c i no_entry h) in
      let keys = column_at key_in most_keys 0 c i 0 no_entry h in
      let flags = column_at on_in most_keys false c i false no_entry h in
      let numbers = column_at confirmed_in most_keys 0 c i 0 no_entry h in
      let lists = column_at shown_in most_keys empty_list c i past no_entry h in
      (λ j. if_confirmed (keys j) (flags j) (numbers j) (lists j) (rest j))
      ∙ set_there f f.shown (confirmed_sets (drop (i + 1) c)) ((entry_rules f).0 (entry_at_law c ((table_rules c).0 m).entries i h)).shown
      ∙ sym (ap confirmed_sets here)

  pub confirmed_stored : confirmed_sets_in (store_sets c) ≡ confirmed_sets c
  unfolding confirmed_sets_in store_sets
  confirmed_stored = confirmed_after (min (length c) most_keys) 0 (omega (arith, ((table_rules c).0 m).short))

  pub sets_stored : sets_in (store_sets c) ≡ shown_sets c
  unfolding sets_in confirmed_sets_in
  sets_stored = from_map bare_shown confirmed_at (store_sets c) (min (store_sets c).count most_keys) 0 ∙ ap (map bare_shown) confirmed_stored ∙ confirmed_shown c
