-- Totals kept by what changes are the sums. In order: figures side by side; one entry among others; how large figures become; a set
-- more, exchanged and less; what a block leaves as it is; what the arrays of stored sets come to.
use Prim.Native.Nat.{ℕ, zero, suc, ◌+◌, ◌*◌, ◌<◌, ◌≤◌, min}
use native.Mathlib.Nat.{le_of_suc-le-suc, not-suc-le-zero}
use native.Mathlib.Numerals.{add-one}
use native.Mathlib.Omega.{arith}
use mathlib.Core.Path.{◌≡◌, refl, sym, ap, ap₂, ◌∙◌, subst}
use mathlib.Core.Bool.{Bool, true, false}
use mathlib.Core.List.{List, [], ◌∷◌, ◌++◌}
use mathlib.Core.Option.{Option, none, some}
use lib.ListN.{length, get_or, set, take, drop, length-set, take-append-drop, drop_of_length-le}
use lib.Seq.{drop-cons, set-get_or, get_or-set_same}
use lib.Dec.{eqb}
use borrow.Author.Tests.{ne_eqb, eqb-true, eq-eqb}
use Rattle.rules.specs.Block.{bit}
use Rattle.rules.specs.Family.{insert, forget, drop_open, closed, entry_with}
use Rattle.rules.specs.Collecting.{linkage, IdSet, Held, Entries, Content, if_there, entry_meets, entries_meet, sets_meet, meets, Shown, showing, shown_sets, most_keys, most_ids}
use Rattle.rules.proofs.Basics.{cases_bool, cases-option, and_left, and_right, and_three, bit_small}
use Rattle.rules.proofs.TableRules.{lawful, set_rules, entry_rules, table_rules, sets_meet_law, shown_few}
use Rattle.rules.proofs.Entries.{place_of, insert_here, forget_here, column_at}
use Rattle.lists.specs.Stored.{store_list, empty_list, store_maybe}
use Rattle.lists.proofs.StoredLaws.{not_none}
use Rattle.sets.specs.Stored.{on_in, shown_in, store_sets, past}
use Rattle.sets.proofs.Entries.{Here, no_entry, entry_at_law}
use Rattle.totals.specs.declared.Totals.{Totals}
use Rattle.totals.specs.Totals.{sum_of, sums, totals_of, no_totals}
use Rattle.totals.specs.Kept.{most, raised, of_set, plus, minus, alike, with_set, without_set, exchanged_set, kept_up, totals_from, totals_in, same_totals}

-- ---- figures side by side

same_figures : {t u : Totals} → t.shown ≡ u.shown → t.on ≡ u.on → t.identifiers ≡ u.identifiers → t ≡ u
same_figures a b c = λ i. record { shown = a i; on = b i; identifiers = c i }

pub same_is : (t u : Totals) → same_totals t u ≡ true → t ≡ u
unfolding same_totals
same_is t u h =
    let r = (and_three (eqb t.shown u.shown) (eqb t.on u.on) (eqb t.identifiers u.identifiers)).0 h in
    same_figures (eqb-true _ _ r.0) (eqb-true _ _ r.1) (eqb-true _ _ r.2)

pub is_same : (t u : Totals) → t ≡ u → same_totals t u ≡ true
unfolding same_totals
is_same t u e =
    (and_three (eqb t.shown u.shown) (eqb t.on u.on) (eqb t.identifiers u.identifiers)).1
    (eq-eqb _ _ (ap (λ (x : Totals). x.shown) e), eq-eqb _ _ (ap (λ (x : Totals). x.on) e), eq-eqb _ _ (ap (λ (x : Totals). x.identifiers) e))

-- flags of one number are the same
same_bit : (a b : Bool) → bit a ≡ bit b → a ≡ b
unfolding bit
same_bit true true e = refl
same_bit true false e = absurd (omega arith)
same_bit false true e = absurd (omega arith)
same_bit false false e = refl

-- together, with no limit
abbrev add : Totals → Totals → Totals
add t u = record { shown = t.shown + u.shown; on = t.on + u.on; identifiers = t.identifiers + u.identifiers }

add_none : (t : Totals) → add no_totals t ≡ t
add_none t = same_figures (omega arith) (omega arith) (omega arith)

add_swap : (a b t : Totals) → add a (add b t) ≡ add b (add a t)
add_swap a b t = same_figures (omega arith) (omega arith) (omega arith)

-- figures that can be stored
record Small (t : Totals) : Type 0 where
  shown_small : t.shown ≤ most
  on_small : t.on ≤ most
  identifiers_small : t.identifiers ≤ most

plus_add : (t a : Totals) → Small (add a t) → plus t a ≡ add a t
unfolding plus raised
plus_add t a s =
    same_figures (omega (arith, s.shown_small)) (omega (arith, s.on_small)) (omega (arith, s.identifiers_small))

minus_add : (t a : Totals) → minus (add a t) a ≡ t
unfolding minus
minus_add t a = same_figures (omega arith) (omega arith) (omega arith)

plus_swap : (t a b : Totals) → plus (plus t a) b ≡ plus (plus t b) a
unfolding plus raised
plus_swap t a b = same_figures (omega arith) (omega arith) (omega arith)

-- ---- one entry among others

-- the figures of what is shown of an entry
unfoldable figures_in : Bool → Option IdSet → Totals
figures_in on none = no_totals
figures_in on (some l) = record { shown = 1; on = bit on; identifiers = length l.items }

abbrev figures : Held → Totals
figures e = figures_in e.state e.shown

-- read off its stored list
of_stored : (key : ℕ) (on : Bool) (o : Option IdSet) → if_there key o ≡ true → of_set (store_maybe o).len on ≡ figures_in on o
unfolding of_set figures_in store_maybe store_list empty_list if_there
of_stored key on none m = refl
of_stored key on (some l) m = rw (ne_eqb (length l.items) 0 (not_none l.items ((set_rules key l).0 m).some))

of_entry : (e : Held) → entry_meets e ≡ true → of_set (store_maybe e.shown).len e.state ≡ figures e
of_entry e m = of_stored e.key e.state e.shown ((entry_rules e).0 m).shown

sums_showing : (e : Held) (o : Option IdSet) (rest : List Shown) → sums (showing e o rest) ≡ add (figures_in e.state o) (sums rest)
unfolding sums sum_of showing figures_in
sums_showing e none rest = sym (add_none (sums rest))
sums_showing e (some l) rest = same_figures (omega arith) refl refl

sums_middle : (xs : Entries) (e : Held) (ys : Entries) → sums (shown_sets (xs ++ e ∷ ys)) ≡ add (figures e) (sums (shown_sets (xs ++ ys)))
unfolding shown_sets
sums_middle [] e ys = sums_showing e e.shown (shown_sets ys)
sums_middle (x ∷ xs) e ys =
    sums_showing x x.shown (shown_sets (xs ++ e ∷ ys)) ∙ ap (add (figures x)) (sums_middle xs e ys)
    ∙ add_swap (figures x) (figures e) (sums (shown_sets (xs ++ ys))) ∙ ap (add (figures e)) (sym (sums_showing x x.shown (shown_sets (xs ++ ys))))

-- the other entries than the one at a place
abbrev others : Entries → ℕ → Entries
others c j = take j c ++ drop (suc j) c

sums_set : (c : Entries) (j : ℕ) (e : Held) → j < length c → sums (shown_sets (set c j e)) ≡ add (figures e) (sums (shown_sets (others c j)))
sums_set c j e h = ap (λ (x : Entries). sums (shown_sets x)) (split c j h) ∙ sums_middle (take j c) e (drop (suc j) c)
  where
    split : (c : Entries) (j : ℕ) → j < length c → set c j e ≡ take j c ++ e ∷ drop (suc j) c
    split [] j h = absurd (not-suc-le-zero h)
    split (x ∷ c) zero h = refl
    split (x ∷ c) (suc j) h = ap (◌∷◌ x) (split c j (le_of_suc-le-suc h))

sums_at : (c : Entries) (j : ℕ) → j < length c → sums (shown_sets c) ≡ add (figures (get_or c j no_entry)) (sums (shown_sets (others c j)))
sums_at c j h = ap (λ (x : Entries). sums (shown_sets x)) (sym (set-get_or c j no_entry)) ∙ sums_set c j (get_or c j no_entry) h

-- ---- how large figures become

figures_most : (key : ℕ) (on : Bool) (o : Option IdSet) → if_there key o ≡ true
    → ((figures_in on o).on ≤ (figures_in on o).shown) × ((figures_in on o).identifiers ≤ most_ids)
unfolding figures_in if_there
figures_most key on none m = (omega arith, omega arith)
figures_most key on (some l) m = (bit_small on, ((set_rules key l).0 m).short)

sums_most : (c : Entries) → entries_meet c ≡ true
    → ((sums (shown_sets c)).on ≤ (sums (shown_sets c)).shown) × ((sums (shown_sets c)).identifiers ≤ length c * most_ids)
unfolding shown_sets entries_meet
sums_most [] m = unfold sums sum_of in (omega arith, omega arith)
sums_most (e ∷ es) m =
    let here = figures_most e.key e.state e.shown ((entry_rules e).0 (and_left (entry_meets e) (entries_meet es) m)).shown in
    let rest = sums_most es (and_right (entry_meets e) (entries_meet es) m) in
    let both = sums_showing e e.shown (shown_sets es) in (
      omega (arith, here.0, rest.0, ap (λ (t : Totals). t.on) both, ap (λ (t : Totals). t.shown) both),
      omega (arith, here.1, rest.1, ap (λ (t : Totals). t.identifiers) both),
    )

small : (c : Entries) → entries_meet c ≡ true → length c ≤ most_keys → Small (sums (shown_sets c))
unfolding sums
small c m h =
    let s = sums_most c m in
    record { shown_small = omega (arith, shown_few c); on_small = omega (arith, shown_few c, s.0); identifiers_small = omega (arith, s.1) }

-- of a table that meets the rules: 32 sets, no more on than shown, 4,096 identifiers
pub totals_most : (c : Content) → meets c ≡ true
    → ((totals_of c).shown ≤ most_keys) × ((totals_of c).on ≤ (totals_of c).shown) × ((totals_of c).identifiers ≤ most_keys * most_ids)
unfolding totals_of sums
totals_most c m =
    let r = (table_rules c.sets).0 (sets_meet_law c m) in
    let s = sums_most c.sets r.entries in
    (omega (arith, r.short, shown_few c.sets), s.0, omega (arith, r.short, s.1))

-- ---- a set more, exchanged, less

-- one after another they are the sums
pub kept_sums : (c : Entries) → entries_meet c ≡ true → length c ≤ most_keys → kept_up c ≡ sums (shown_sets c)
unfolding kept_up shown_sets with_set
kept_sums [] m h = unfold sums sum_of in refl
kept_sums (e ∷ es) m h =
    let here = and_left (entry_meets e) (entries_meet es) (unfold entries_meet in m) in
    let rest = and_right (entry_meets e) (entries_meet es) (unfold entries_meet in m) in
    let both = sums_showing e e.shown (shown_sets es) in
    ap₂ plus (kept_sums es rest (omega arith)) (of_entry e here)
    ∙ plus_add (sums (shown_sets es)) (figures e) (subst Small both (small (e ∷ es) m h)) ∙ sym both

-- and so with one more at the end
pub kept_more : (c : Entries) (e : Held) → kept_up (c ++ e ∷ []) ≡ with_set (kept_up c) (store_maybe e.shown).len e.state
unfolding kept_up with_set
kept_more [] e = refl
kept_more (x ∷ c) e =
    ap (λ (t : Totals). plus t (of_set (store_maybe x.shown).len x.state)) (kept_more c e)
    ∙ plus_swap (kept_up c) (of_set (store_maybe e.shown).len e.state) (of_set (store_maybe x.shown).len x.state)

module _ (c : Entries) (m : sets_meet c ≡ true) (j : ℕ) (h : j < length c) where
  -- the set at a place
  abbrev len_at : ℕ
  len_at = (store_maybe (get_or c j no_entry).shown).len

  abbrev on_at : Bool
  on_at = (get_or c j no_entry).state

  here_meets : entry_meets (get_or c j no_entry) ≡ true
  here_meets = entry_at_law c ((table_rules c).0 m).entries j h

  less : without_set (sums (shown_sets c)) len_at on_at ≡ sums (shown_sets (others c j))
  unfolding without_set
  less =
      ap₂ minus (sums_at c j h) (of_entry (get_or c j no_entry) here_meets)
      ∙ minus_add (sums (shown_sets (others c j))) (figures (get_or c j no_entry))

  module _ (e : Held) (n : sets_meet (set c j e) ≡ true) where
    then_meets : entry_meets e ≡ true
    then_meets =
        subst (λ (x : Held). entry_meets x ≡ true) (get_or-set_same c j e no_entry h)
        (entry_at_law (set c j e) ((table_rules (set c j e)).0 n).entries j (rw (length-set c j e) h))

    -- one that is counted alike
    sums_alike : alike len_at on_at (store_maybe e.shown).len e.state ≡ true → sums (shown_sets c) ≡ sums (shown_sets (set c j e))
    unfolding alike
    sums_alike a =
        let lens = eqb-true len_at (store_maybe e.shown).len (and_left _ _ a) in
        let states = same_bit on_at e.state (eqb-true _ _ (and_right (eqb len_at (store_maybe e.shown).len) _ a)) in
        sums_at c j h
        ∙ ap (λ (t : Totals). add t (sums (shown_sets (others c j)))) (sym (of_entry (get_or c j no_entry) here_meets) ∙ ap₂ of_set lens states ∙ of_entry e then_meets)
        ∙ sym (sums_set c j e h)

    sums_other : with_set (without_set (sums (shown_sets c)) len_at on_at) (store_maybe e.shown).len e.state ≡ sums (shown_sets (set c j e))
    unfolding with_set
    sums_other =
        let r = (table_rules (set c j e)).0 n in
        ap₂ plus less (of_entry e then_meets)
        ∙ plus_add (sums (shown_sets (others c j))) (figures e) (subst Small (sums_set c j e h) (small (set c j e) r.entries r.short))
        ∙ sym (sums_set c j e h)

    pub sums_exchanged : exchanged_set (sums (shown_sets c)) len_at on_at (store_maybe e.shown).len e.state ≡ sums (shown_sets (set c j e))
    unfolding exchanged_set
    sums_exchanged =
        cases_bool (alike len_at on_at (store_maybe e.shown).len e.state) (λ a. rw a (sums_alike a)) (λ a. rw a sums_other)

-- a held key forgotten: its set less
pub sums_forgotten : (c : Entries) → sets_meet c ≡ true → (k : ℕ) (h : Here c k)
    → without_set (sums (shown_sets c)) (store_maybe (get_or c (place_of linkage c k) no_entry).shown).len (get_or c (place_of linkage c k) no_entry).state
    ≡ sums (shown_sets (forget linkage k c))
sums_forgotten c m k h = less c m (place_of linkage c k) h.0 ∙ ap (λ (x : Entries). sums (shown_sets x)) (sym (forget_here linkage lawful no_entry c k h))

-- ---- what stays

-- a new key, of which nothing is shown
pub sums_opened : (c : Entries) (e : Held) → e.shown ≡ none → (Here c e.key → ⊥) → sums (shown_sets (insert linkage e c)) ≡ sums (shown_sets c)
unfolding figures_in
sums_opened c e z n =
    let j = place_of linkage c e.key in
    ap (λ (x : Entries). sums (shown_sets x)) (insert_here linkage lawful no_entry c e n)
    ∙ sums_middle (take j c) e (drop j c)
    ∙ ap₂ (λ (o : Option IdSet) (x : Entries). add (figures_in e.state o) (sums (shown_sets x))) z (take-append-drop j c)
    ∙ add_none (sums (shown_sets c))

-- all open lists dropped
pub shown_closed : (c : Entries) → shown_sets (drop_open linkage c) ≡ shown_sets c
unfolding shown_sets drop_open closed entry_with showing
shown_closed [] = refl
shown_closed (e ∷ c) =
    let rest = shown_closed c in
    cases-option e.shown (λ z. rw (z, rest)) (λ l z. rw (z, rest))

-- ---- what the arrays of stored sets come to

module _ (c : Entries) (m : sets_meet c ≡ true) where
  kept_after : (n i : ℕ) → i + n ≡ length c → totals_from (store_sets c) i n ≡ kept_up (drop i c)
  unfolding totals_from kept_up store_sets on_in shown_in
  kept_after zero i e = sym (ap kept_up (drop_of_length-le c {i = i} (omega arith)))
  kept_after (suc n) i e =
      let h : i < length c = omega arith in
      let f = get_or c i no_entry in
      let here : drop i c ≡ f ∷ drop (i + 1) c = rw (add-one i) (drop-cons c i no_entry h) in
      (λ j. with_set (kept_after n (i + 1) (omega arith) j) (column_at shown_in most_keys empty_list c i past no_entry h j).len (column_at on_in most_keys false c i false no_entry h j))
      ∙ sym (ap kept_up here)

  pub sums_stored : totals_in (store_sets c) ≡ sums (shown_sets c)
  unfolding totals_in store_sets
  sums_stored =
      let r = (table_rules c).0 m in
      kept_after (min (length c) most_keys) 0 (omega (arith, r.short)) ∙ kept_sums c r.entries r.short
