-- Laws of the stored form of a list. In order: zeros; the pairs of a stored list are its items; what is read off a list that
-- holds something (`Facts`), and that these facts are enough (`holds_by`); a test that fails or passes (`refuted`, `passed`).
use Prim.Native.Nat.{ℕ, zero, suc, ◌-◌, ◌≤◌}
use native.Mathlib.Omega.{arith}
use mathlib.Core.Path.{◌≡◌, refl, sym, ap, ap₂, ◌∙◌, subst}
use mathlib.Core.Bool.{Bool, true, false, cond, ◌&&◌, false≢true}
use mathlib.Core.List.{List, [], ◌∷◌, ◌++◌, map}
use mathlib.Core.Option.{Option, none, some}
use lib.ListN.{length, get_or, take, drop, replicate, length-drop, length-map}
use lib.Dec.{eqb, leb}
use lib.Seq.{take-append_seam}
use borrow.Author.Tests.{eqb-true, eqb-false, eq-eqb, ne_eqb, le-leb, leb-true}
use Rattle.rules.specs.Arrays.{padded}
use Rattle.rules.specs.Field.{Pair, pair, number_in, kind_in}
use Rattle.rules.specs.Collecting.{IdSet, key_width, pairs_meet, names_meet, all_differ, not_empty, may_begin, begins_right, if_there, most_ids}
use Rattle.rules.proofs.Basics.{cases_bool, and_left, and_right}
use Rattle.rules.proofs.Arrays.{length_padded, drop_padded, same_padded}
use Rattle.rules.proofs.TableRules.{SetRules, set_rules, some_there, not_empty_law}
use Rattle.lists.specs.declared.IdList.{IdList}
use Rattle.lists.specs.Stored.{store_list, empty_list, store_maybe, paired, pairs_in, all_zero, is_padded, meets_rules, Holds, Tested}
use Rattle.lists.proofs.PairLaws.{length_pairs_in, numbers_of_paired, kinds_of_paired}
use Rattle.std.proofs.lemmas.List.{take-map}

-- ---- zeros

all_zero_replicate : (n : ℕ) → all_zero (replicate n 0) ≡ true
all_zero_replicate zero = refl
all_zero_replicate (suc n) = all_zero_replicate n

zeros_replicate : (xs : List ℕ) → all_zero xs ≡ true → xs ≡ replicate (length xs) 0
zeros_replicate [] e = refl
zeros_replicate (x ∷ xs) e = ap₂ ◌∷◌ (eqb-true x 0 (and_left (eqb x 0) (all_zero xs) e)) (zeros_replicate xs (and_right (eqb x 0) (all_zero xs) e))

-- past the values of a stored array there are zeros
pub padded_zeros : (n : ℕ) (xs : List ℕ) → all_zero (drop (length xs) (padded n 0 xs)) ≡ true
padded_zeros n xs = ap all_zero (drop_padded n 0 xs (length xs) refl) ∙ all_zero_replicate (n - length xs)

pub zeros_padded : (n len : ℕ) (xs : List ℕ) → length xs ≡ n → len ≤ n → all_zero (drop len xs) ≡ true → xs ≡ padded n 0 (take len xs)
zeros_padded n len xs l h z =
    same_padded n len 0 xs l h (zeros_replicate (drop len xs) z ∙ ap (λ (k : ℕ). replicate k 0) (length-drop len xs ∙ ap (λ (m : ℕ). m - len) l))

-- ---- pairs

paired_map : (ps : List Pair) (ks ns : List ℕ) → paired (map kind_in ps ++ ks) (map number_in ps ++ ns) ≡ ps ++ paired ks ns
unfolding paired pair kind_in number_in
paired_map [] ks ns = refl
paired_map (p ∷ ps) ks ns = ap (λ (r : List Pair). p ∷ r) (paired_map ps ks ns)

pub pairs_in_store : (l : IdSet) → pairs_in (store_list l).kinds (store_list l).numbers (length l.items) ≡ l.items
unfolding pairs_in store_list padded
pairs_in_store l = ap (take (length l.items)) (paired_map l.items _ _) ∙ take-append_seam l.items _

pub kinds_of_pairs : (ks ns : List ℕ) (len : ℕ) → length ks ≡ length ns → map kind_in (pairs_in ks ns len) ≡ take len ks
unfolding pairs_in
kinds_of_pairs ks ns len e = sym (take-map kind_in len (paired ks ns)) ∙ ap (take len) (kinds_of_paired ks ns e)

pub numbers_of_pairs : (ks ns : List ℕ) (len : ℕ) → length ks ≡ length ns → map number_in (pairs_in ks ns len) ≡ take len ns
unfolding pairs_in
numbers_of_pairs ks ns len e = sym (take-map number_in len (paired ks ns)) ∙ ap (take len) (numbers_of_paired ks ns e)

-- an array of zeros
all_zeros : (xs : List ℕ) → length xs ≡ most_ids → all_zero xs ≡ true → xs ≡ replicate most_ids 0
all_zeros xs l z = zeros_replicate xs z ∙ ap (λ (k : ℕ). replicate k 0) l

-- a set is not empty
pub not_none : (ps : List Pair) → not_empty ps ≡ true → length ps ≡ 0 → ⊥
not_none ps e z = omega (arith, some_there ps e)

first_kept : (key : ℕ) (ks ns : List ℕ) (len : ℕ) → may_begin key (get_or ks 0 0) ≡ true → begins_right key (pairs_in ks ns len) ≡ true
unfolding pairs_in paired begins_right pair
first_kept key ks ns zero e = refl
first_kept key [] ns (suc len) e = refl
first_kept key (a ∷ ks) [] (suc len) e = refl
first_kept key (a ∷ ks) (b ∷ ns) (suc len) e = e

-- ---- what is read off a list that holds something

pub record Facts (key : ℕ) (l : IdList) : Type 0 where
  pub short : l.len ≤ most_ids
  pub numbers_end : all_zero (drop l.len l.numbers) ≡ true
  pub kinds_end : all_zero (drop l.len l.kinds) ≡ true
  pub unnamed : l.len ≡ 0 → l.named ≡ 0
  pub first : (l.len ≡ 0 → ⊥) → may_begin key (get_or l.kinds 0 0) ≡ true
  pub names : (l.len ≡ 0 → ⊥) → names_meet key l.named ≡ true
  pub pairs : (l.len ≡ 0 → ⊥) → pairs_meet (key_width key) l.named (pairs_in l.kinds l.numbers l.len) ≡ true
  pub differ : (l.len ≡ 0 → ⊥) → all_differ (pairs_in l.kinds l.numbers l.len) ≡ true

first_kind_law : (key : ℕ) (ps : List Pair) (pad : List ℕ) → not_empty ps ≡ true → begins_right key ps ≡ true
    → may_begin key (get_or (map kind_in ps ++ pad) 0 0) ≡ true
unfolding not_empty begins_right kind_in
first_kind_law key [] pad s e = absurd (false≢true s)
first_kind_law key (p ∷ ps) pad s e = e

-- a stored set of at least one pair
first_of : (key : ℕ) (l : IdSet) → not_empty l.items ≡ true → begins_right key l.items ≡ true → may_begin key (get_or (store_list l).kinds 0 0) ≡ true
unfolding store_list padded
first_of key l s e = first_kind_law key l.items _ s e

some_facts : (key : ℕ) (l : IdSet) → SetRules key l → Facts key (store_list l)
unfolding store_list
some_facts key l f =
    record {
      short = f.short;
      numbers_end = rw (← length-map l.items number_in) (padded_zeros most_ids (map number_in l.items));
      kinds_end = rw (← length-map l.items kind_in) (padded_zeros most_ids (map kind_in l.items));
      unnamed = λ z. absurd (not_none l.items f.some z);
      first = λ n. first_of key l f.some f.first;
      names = λ n. f.names;
      pairs = λ n. ap (pairs_meet (key_width key) l.named) (pairs_in_store l) ∙ f.pairs;
      differ = λ n. ap all_differ (pairs_in_store l) ∙ f.differ;
    }

-- a stored list is not empty
pub stored_some : (key : ℕ) (l : IdSet) → if_there key (some l) ≡ true → (store_maybe (some l)).len ≡ 0 → ⊥
unfolding if_there store_maybe store_list
stored_some key l m z = not_none l.items ((set_rules key l).0 m).some z

store_facts : (key : ℕ) (o : Option IdSet) → if_there key o ≡ true → Facts key (store_maybe o)
unfolding if_there store_maybe empty_list
store_facts key none e =
    record {
      short = omega arith;
      numbers_end = refl;
      kinds_end = refl;
      unnamed = λ z. refl;
      first = λ n. absurd (n refl);
      names = λ n. absurd (n refl);
      pairs = λ n. absurd (n refl);
      differ = λ n. absurd (n refl);
    }
store_facts key (some l) e = some_facts key l ((set_rules key l).0 e)

pub holds_facts : (key : ℕ) (l : IdList) → Holds key l → Facts key l
unfolding Holds
holds_facts key l h = subst (Facts key) (sym h.2) (store_facts key h.0 h.1)

-- ---- the list that is stored

-- read off the arrays
unfoldable pub list_of : IdList → Option IdSet
list_of l = cond (eqb l.len 0) none (some (record { items = pairs_in l.kinds l.numbers l.len; named = l.named }))

list_of_store : (key : ℕ) (o : Option IdSet) → if_there key o ≡ true → list_of (store_maybe o) ≡ o
unfolding list_of store_maybe store_list empty_list if_there
list_of_store key none e = refl
list_of_store key (some l) e =
    rw (ne_eqb (length l.items) 0 (not_none l.items ((set_rules key l).0 e).some))
    (ap (λ (ps : List Pair). some (record { items = ps; named = l.named })) (pairs_in_store l))

pub list_of_holds : (key : ℕ) (l : IdList) → Holds key l → (if_there key (list_of l) ≡ true) × (store_maybe (list_of l) ≡ l)
unfolding Holds
list_of_holds key l h =
    let e : list_of l ≡ h.0 = ap list_of h.2 ∙ list_of_store key h.0 h.1 in
    (ap (if_there key) e ∙ h.1, ap store_maybe e ∙ sym h.2)

pub holds_none : (key : ℕ) → Holds key empty_list
unfolding Holds if_there store_maybe
holds_none key = (none, refl, refl)

pub empty_by : (key : ℕ) (l : IdList) → Holds key l → l.len ≡ 0 → l ≡ empty_list
unfolding list_of store_maybe
empty_by key l h z = sym (list_of_holds key l h).1 ∙ rw (eq-eqb l.len 0 z)

-- ---- these facts are enough

module _ (key : ℕ) (l : IdList) (f : Facts key l) (numbers_long : length l.numbers ≡ most_ids) (kinds_long : length l.kinds ≡ most_ids) where
  -- the set that is stored
  kept : IdSet
  kept = record { items = pairs_in l.kinds l.numbers l.len; named = l.named }

  length_kept : length (pairs_in l.kinds l.numbers l.len) ≡ l.len
  length_kept = length_pairs_in l.kinds l.numbers l.len ∙ omega (arith, f.short)

  stored : l ≡ store_list kept
  unfolding store_list kept
  stored =
      let ns : l.numbers ≡ padded most_ids 0 (map number_in (pairs_in l.kinds l.numbers l.len)) =
      zeros_padded most_ids l.len l.numbers numbers_long f.short f.numbers_end
      ∙ ap (padded most_ids 0) (sym (numbers_of_pairs l.kinds l.numbers l.len (kinds_long ∙ sym numbers_long))) in
      let ks : l.kinds ≡ padded most_ids 0 (map kind_in (pairs_in l.kinds l.numbers l.len)) =
      zeros_padded most_ids l.len l.kinds kinds_long f.short f.kinds_end
      ∙ ap (padded most_ids 0) (sym (kinds_of_pairs l.kinds l.numbers l.len (kinds_long ∙ sym numbers_long))) in
      λ i. record { numbers = ns i; kinds = ks i; len = sym length_kept i; named = l.named }

  kept_facts : (l.len ≡ 0 → ⊥) → SetRules key kept
  unfolding kept
  kept_facts n =
      record {
        short = subst (λ (k : ℕ). k ≤ most_ids) (sym length_kept) f.short;
        some = not_empty_law (pairs_in l.kinds l.numbers l.len) (omega (arith, length_kept, n));
        first = first_kept key l.kinds l.numbers l.len (f.first n);
        differ = f.differ n;
        pairs = f.pairs n;
        names = f.names n;
      }

  empty_stored : l.len ≡ 0 → l ≡ empty_list
  unfolding empty_list
  empty_stored z =
      let ns : l.numbers ≡ replicate most_ids 0 = all_zeros l.numbers numbers_long (subst (λ (k : ℕ). all_zero (drop k l.numbers) ≡ true) z f.numbers_end) in
      let ks : l.kinds ≡ replicate most_ids 0 = all_zeros l.kinds kinds_long (subst (λ (k : ℕ). all_zero (drop k l.kinds) ≡ true) z f.kinds_end) in
      let nm : l.named ≡ 0 = f.unnamed z in
      λ i. record { numbers = ns i; kinds = ks i; len = z i; named = nm i }

  pub holds_by : Holds key l
  unfolding Holds if_there store_maybe
  holds_by =
      cases_bool (eqb l.len 0)
      (λ z. (none, refl, empty_stored (eqb-true _ _ z)))
      (λ n. (some kept, (set_rules key kept).1 (kept_facts (eqb-false _ _ n)), stored))

-- ---- a test that fails, and one that passes

pub refuted : (P : Type 0) → (P → ⊥) → Tested false P
refuted P n = record { sound = λ e. absurd (false≢true e); complete = λ p. absurd (n p) }

pub passed : (P : Type 0) → P → Tested true P
passed P p = record { sound = λ e. p; complete = λ q. refl }

-- a test came out false, and what it tests is so
pub fails : {a b : Bool} → a ≡ b → a ≡ false → b ≡ true → ⊥
fails e f t = false≢true (sym f ∙ e ∙ t)

module _ (key : ℕ) (l : IdList) where
  -- a list with something past its end holds nothing
  pub tested_padding : {b : Bool} → b ≡ is_padded l → b ≡ false → Tested false (Holds key l)
  tested_padding e f =
      refuted _ (λ h.
      let a = holds_facts key l h in
      fails e f (rw (le-leb l.len most_ids a.short, a.numbers_end, a.kinds_end)))

  module _ {b : Bool} (e : b ≡ is_padded l) (t : b ≡ true) (numbers_long : length l.numbers ≡ most_ids) (kinds_long : length l.kinds ≡ most_ids) where
    is_so : is_padded l ≡ true
    is_so = sym e ∙ t

    room : leb l.len most_ids && all_zero (drop l.len l.numbers) ≡ true
    room = and_left (leb l.len most_ids && all_zero (drop l.len l.numbers)) (all_zero (drop l.len l.kinds)) is_so

    short : l.len ≤ most_ids
    short = leb-true l.len most_ids (and_left (leb l.len most_ids) (all_zero (drop l.len l.numbers)) room)

    numbers_end : all_zero (drop l.len l.numbers) ≡ true
    numbers_end = and_right (leb l.len most_ids) (all_zero (drop l.len l.numbers)) room

    kinds_end : all_zero (drop l.len l.kinds) ≡ true
    kinds_end = and_right (leb l.len most_ids && all_zero (drop l.len l.numbers)) (all_zero (drop l.len l.kinds)) is_so

    -- an empty list holds something exactly if it names nothing
    pub tested_empty : l.len ≡ 0 → Tested (eqb l.named 0) (Holds key l)
    tested_empty z =
        record {
          sound = λ e. holds_by key l
              (record {
                short = short;
                numbers_end = numbers_end;
                kinds_end = kinds_end;
                unnamed = λ q. eqb-true l.named 0 e;
                first = λ n. absurd (n z);
                names = λ n. absurd (n z);
                pairs = λ n. absurd (n z);
                differ = λ n. absurd (n z);
              }) numbers_long kinds_long;
          complete = λ h. eq-eqb _ _ ((holds_facts key l h).unnamed z);
        }

    -- and another exactly if it meets the rules
    pub tested_rules : (l.len ≡ 0 → ⊥) → Tested (meets_rules key l) (Holds key l)
    tested_rules n =
        record {
          sound = λ e.
              let ps = pairs_in l.kinds l.numbers l.len in
              let begins = may_begin key (get_or l.kinds 0 0) in
              let named = names_meet key l.named in
              let within = pairs_meet (key_width key) l.named ps in
              let three = and_left (begins && named && within) (all_differ ps) e in
              let two = and_left (begins && named) within three in
              holds_by key l
              (record {
                short = short;
                numbers_end = numbers_end;
                kinds_end = kinds_end;
                unnamed = λ z. absurd (n z);
                first = λ m. and_left begins named two;
                names = λ m. and_right begins named two;
                pairs = λ m. and_right (begins && named) within three;
                differ = λ m. and_right (begins && named && within) (all_differ ps) e;
              }) numbers_long kinds_long;
          complete = λ h.
              let a = holds_facts key l h in
              rw (a.first n, a.names n, a.pairs n, a.differ n);
        }

-- ---- the arrays of a list that holds something are 128 long

store_long : (key : ℕ) (o : Option IdSet) → if_there key o ≡ true → (length (store_maybe o).numbers ≡ most_ids) × (length (store_maybe o).kinds ≡ most_ids)
unfolding store_maybe empty_list store_list if_there
store_long key none m = (refl, refl)
store_long key (some l) m =
    let h : length l.items ≤ most_ids = ((set_rules key l).0 m).short in
    (length_padded most_ids 0 (map number_in l.items) (rw length-map h), length_padded most_ids 0 (map kind_in l.items) (rw length-map h))

pub holds_long : (key : ℕ) (l : IdList) → Holds key l → (length l.numbers ≡ most_ids) × (length l.kinds ≡ most_ids)
unfolding Holds
holds_long key l h = subst (λ (x : IdList). (length x.numbers ≡ most_ids) × (length x.kinds ≡ most_ids)) (sym h.2) (store_long key h.0 h.1)
