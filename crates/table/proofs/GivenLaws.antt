-- The test of a table: its sets, its numbers, its totals; what a function that is given a table owes, by the answer of that test; forgetting a key; copying a set out.
use Prim.Native.Nat.{ℕ, zero, suc, ◌-◌, ◌<◌, ◌≤◌}
use native.Mathlib.Omega.{arith}
use mathlib.Core.Path.{◌≡◌, refl, sym, ap, ap₂, ◌∙◌, subst}
use mathlib.Core.Bool.{Bool, true, false, ◌&&◌, false≢true}
use mathlib.Core.List.{List, [], ◌∷◌, ◌++◌, map}
use mathlib.Core.Option.{Option, none}
use Rattle.std.specs.Prelude.{Some, None}
use lib.ListN.{length, get_or, take, replicate}
use lib.Dec.{leb, ltb}
use borrow.Author.Tests.{ltb-true, le-leb}
use Rattle.rules.specs.Arrays.{padded}
use Rattle.rules.specs.declared.Outcome.TheVariants.{Done, NotHeld}
use Rattle.rules.specs.Family.{find}
use Rattle.rules.specs.Collecting.{linkage, Held, Entries, Content, with_sets, meets, numbers_within, if_there, most_keys, most_blocks}
use Rattle.rules.specs.Outcomes.{forget_outcome, forgotten, held_or, not_copied, copy_held, copy_out}
use Rattle.rules.proofs.Basics.{and_left, cases_bool}
use Rattle.rules.proofs.TableRules.{lawful, table_rules, table_meets_law, numbers_within_law, content_meets, sets_meet_law, entry_rules}
use Rattle.rules.proofs.Entries.{find_here, find_not_here, forget_not_here, column_at}
use Rattle.lists.specs.Stored.{empty_list, store_maybe, Tested}
use Rattle.sets.specs.declared.Sets.{Sets}
use Rattle.sets.specs.Stored.{key_in, on_in, confirmed_in, shown_in, store_sets, SetsStored, past, shut_sets}
use Rattle.sets.specs.Places.{place_in, stands_at}
use Rattle.sets.proofs.Entries.{Here, no_entry, entry_at_law}
use Rattle.sets.proofs.PlaceLaws.{place_at, stands, stands_not, store_forgets, Roomy, stored_short, stored_shown}
use Rattle.sets.proofs.Contents.{store_injective}
use Rattle.totals.specs.declared.Totals.{Totals}
use Rattle.totals.specs.Totals.{totals_of}
use Rattle.totals.specs.Kept.{without_set, totals_in, same_totals}
use Rattle.totals.proofs.Laws.{same_is, is_same, sums_forgotten, sums_stored}
use Rattle.table.specs.declared.Table.{Table}
use Rattle.table.specs.Stored.{table_of, store_table, Stored, Given, stored, not_stored}
use Rattle.table.specs.Answers.{place_held, forgotten_as, all_within, copy_stored}
use Rattle.table.proofs.Copies.{copy_stored_law}

-- ---- the test of a table is that of its sets, that of their numbers and that of its totals

pub sets_stored : (t : Table) → Stored t → SetsStored t.sets
unfolding SetsStored Stored
sets_stored t s = (s.0.sets, sets_meet_law s.0 s.1, ap (λ (u : Table). u.sets) s.2)

-- the totals of a stored table are those of its sets
pub totals_stored : (t : Table) → Stored t → t.totals ≡ totals_in t.sets
unfolding Stored totals_of
totals_stored t s =
    ap (λ (u : Table). u.totals) s.2 ∙ sym (sums_stored s.0.sets (sets_meet_law s.0 s.1)) ∙ sym (ap (λ (u : Table). totals_in u.sets) s.2)

-- the numbers of its entries in their array, with zeros behind them
within_zeros : (n k : ℕ) → all_within n (replicate k 0) ≡ true
within_zeros n zero = refl
within_zeros n (suc k) = rw (le-leb 0 n (omega arith)) (within_zeros n k)

within_entries : (n k : ℕ) (c : Entries) → all_within n (map confirmed_in c ++ replicate k 0) ≡ numbers_within n c
unfolding numbers_within confirmed_in
within_entries n k [] = within_zeros n k
within_entries n k (e ∷ c) = ap (λ (b : Bool). leb e.stamp n && b) (within_entries n k c)

within_stored : (n : ℕ) (t : Sets) (c : Entries) → t ≡ store_sets c → all_within n t.confirmed ≡ numbers_within n c
unfolding store_sets padded
within_stored n t c e = ap (λ (u : Sets). all_within n u.confirmed) e ∙ within_entries n (most_keys - length (map confirmed_in c)) c

-- of a stored table none is above its own count
pub numbers_stored : (t : Table) → Stored t → all_within t.blocks t.sets.confirmed ≡ true
unfolding Stored
numbers_stored t s =
    let m = (content_meets s.0).0 s.1 in
    within_stored t.blocks t.sets s.0.sets (ap (λ (u : Table). u.sets) s.2)
    ∙ ap (λ (u : Table). numbers_within u.blocks s.0.sets) s.2 ∙ (numbers_within_law s.0.blocks s.0.sets).1 m.within

-- and a table of which all three hold is stored
all_stored : (t : Table) → t.blocks ≤ most_blocks → SetsStored t.sets → all_within t.blocks t.sets.confirmed ≡ true
    → t.totals ≡ totals_in t.sets → Stored t
unfolding SetsStored Stored totals_of
all_stored t b s w n = (
  record { sets = s.0; blocks = t.blocks },
  (content_meets _).1 (record {
    sets = s.1;
    within = (numbers_within_law t.blocks s.0).0 (sym (within_stored t.blocks t.sets s.0 s.2) ∙ w);
    most = b;
  }),
  ap₂ (λ (x : Sets) (y : Totals). table_of x y t.blocks) s.2 (n ∙ ap totals_in s.2 ∙ sums_stored s.0 s.1),
)

module _ (t : Table) {b : Bool} (w : Tested b (SetsStored t.sets)) where
  pub tested_wrong : b ≡ false → Tested false (Stored t)
  tested_wrong f = record { sound = λ e. absurd (false≢true e); complete = λ s. sym f ∙ w.complete (sets_stored t s) }

  pub tested_numbers : {n : Bool} → n ≡ all_within t.blocks t.sets.confirmed → n ≡ false → Tested false (Stored t)
  tested_numbers q f = record { sound = λ e. absurd (false≢true e); complete = λ s. sym f ∙ q ∙ numbers_stored t s }

  pub tested_totals : t.blocks ≤ most_blocks → b ≡ true → {n : Bool} → n ≡ all_within t.blocks t.sets.confirmed → n ≡ true
      → {r : Bool} → r ≡ same_totals t.totals (totals_in t.sets) → Tested r (Stored t)
  tested_totals most f p g q =
      record {
        sound = λ e. all_stored t most (w.sound f) (sym p ∙ g) (same_is _ _ (sym q ∙ e));
        complete = λ s. q ∙ is_same _ _ (totals_stored t s);
      }

pub given_wrong : {t : Table} {right : Content → Type 0} {otherwise : Type 0} {b : Bool} → Tested b (Stored t) → b ≡ false → otherwise → Given t right otherwise
given_wrong w f o = not_stored (λ s. false≢true (sym f ∙ w.complete s)) o

pub given_right : {t : Table} {right : Content → Type 0} {otherwise : Type 0} {b : Bool} → Tested b (Stored t) → b ≡ true
    → ((c : Content) → meets c ≡ true → t ≡ store_table c → right c) → Given t right otherwise
unfolding Stored
given_right w f r =
    let s = w.sound f in
    stored s.0 s.1 s.2 (r s.0 s.1 s.2)

-- what is owed of a stored table, said of its content
pub given_content : {t : Table} {right : Content → Type 0} {otherwise : Type 0} (c : Content) → meets c ≡ true → t ≡ store_table c
    → Given t right otherwise → right c
unfolding Stored
given_content {right = right} c m s (stored d f p a) = subst right (store_content d c f m (sym p ∙ s)) a
  where
    store_content : (c d : Content) → meets c ≡ true → meets d ≡ true → store_table c ≡ store_table d → c ≡ d
    store_content c d f g e =
        let s = store_injective c.sets d.sets (sets_meet_law c f) (sets_meet_law d g) (ap (λ (u : Table). u.sets) e) in
        λ i. record { sets = s i; blocks = (e i).blocks }
given_content c m s (not_stored n a) = absurd (n (c, m, s))

-- how many keys
pub tested_short : (t : Table) {b : Bool} → Tested b (Stored t) → b ≡ true → t.sets.count ≤ most_keys
tested_short t w f = stored_short t.sets (sets_stored t (w.sound f))

-- the place at which a key stands, or that it stands nowhere
module _ (t : Sets) (k at : ℕ) where
  pub held_where : at ≡ place_in (take t.count t.keys) k
      → (stands_at t.keys t.count at k ≡ true → Some at ≡ place_held t k) × (stands_at t.keys t.count at k ≡ false → None ≡ place_held t k)
  unfolding place_held
  held_where p =
      (λ b. rw (ap (λ (i : ℕ). stands_at t.keys t.count i k) (sym p) ∙ b) (ap Some p), λ b. rw (ap (λ (i : ℕ). stands_at t.keys t.count i k) (sym p) ∙ b) refl)

  where_held : place_held t k ≡ Some at → (at ≡ place_in (take t.count t.keys) k) × (stands_at t.keys t.count at k ≡ true)
  unfolding place_held
  where_held e =
      cases_bool (stands_at t.keys t.count (place_in (take t.count t.keys) k) k)
      (λ b. let f = rw b at e in let p : at ≡ place_in (take t.count t.keys) k = cc in (p, ap (λ (i : ℕ). stands_at t.keys t.count i k) p ∙ b))
      (λ b. let f = rw b at e in cc)

not_held : (t : Sets) (k : ℕ) → place_held t k ≡ None → stands_at t.keys t.count (place_in (take t.count t.keys) k) k ≡ false
unfolding place_held
not_held t k e = cases_bool (stands_at t.keys t.count (place_in (take t.count t.keys) k) k) (λ b. let f = rw b at e in cc) (λ b. b)

-- how long the set there is
pub stands_shown : (t : Table) {b : Bool} → Tested b (Stored t) → b ≡ true → (at k : ℕ) → place_held t.sets k ≡ Some at → Roomy (get_or t.sets.shown at past)
stands_shown t w f at k e =
    stored_shown t.sets (sets_stored t (w.sound f)) at (ltb-true at t.sets.count (and_left (ltb at t.sets.count) _ (where_held t.sets k at e).1))

-- ---- a key that is not held, and one that is

module _ (t : Table) (c : Content) (m : meets c ≡ true) (e : t ≡ store_table c) where
  pub sets_are : t.sets ≡ store_sets c.sets
  sets_are = ap (λ (u : Table). u.sets) e

  -- by the answer of `held_at`
  pub held_none : (k : ℕ) → place_held t.sets k ≡ None → Here c.sets k → ⊥
  held_none k h = stands_not t.sets c.sets sets_are _ k refl (not_held t.sets k h)

  pub held_some : (k at : ℕ) → place_held t.sets k ≡ Some at → (at ≡ place_in (take t.sets.count t.sets.keys) k) × Here c.sets k
  held_some k at h =
      let w = where_held t.sets k at h in
      (w.0, stands t.sets c.sets sets_are at k w.0 w.1)

  module _ (k : ℕ) (n : Here c.sets k → ⊥) where
    missing : find linkage k c.sets ≡ none
    missing = find_not_here linkage lawful no_entry c.sets k ((table_meets_law c.sets).0 (sets_meet_law c m)).ascend n

    pub forgets_missing : record { outcome = NotHeld; table = t } ≡ forgotten_as k c
    unfolding forgotten_as forget_outcome held_or forgotten
    forgets_missing =
        let l : t ≡ store_table (forgotten k c) = e ∙ ap (λ (s : Entries). store_table (with_sets c s)) (sym (forget_not_here linkage lawful no_entry c.sets k ((table_meets_law c.sets).0 (sets_meet_law c m)).ascend n)) in
        let o : NotHeld ≡ held_or (find linkage k c.sets) Done = sym (ap (λ (f : Option Held). held_or f Done) missing) in
        λ j. record { outcome = o j; table = l j }

    pub copies_missing : (ns ks : List ℕ) → not_copied NotHeld ns ks ≡ copy_out k c ns ks
    unfolding copy_out copy_held
    copies_missing ns ks = sym (ap (λ (f : Option Held). copy_held f ns ks) missing)

  module _ (k at : ℕ) (p : at ≡ place_in (take t.sets.count t.sets.keys) k) (h : Here c.sets k) where
    i : ℕ
    i = place_in (map key_in c.sets) k

    held : Held
    held = get_or c.sets i no_entry

    within : i < length c.sets
    unfolding i
    within = h.0

    place : at ≡ i
    unfolding i
    place = p ∙ place_at t.sets c.sets sets_are k

    set_is : get_or t.sets.shown at past ≡ store_maybe held.shown
    unfolding store_sets shown_in held
    set_is = ap₂ (λ (u : Sets) (j : ℕ). get_or u.shown j past) sets_are place ∙ column_at shown_in most_keys empty_list c.sets i past no_entry within

    on_is : get_or t.sets.on at false ≡ held.state
    unfolding store_sets on_in held
    on_is = ap₂ (λ (u : Sets) (j : ℕ). get_or u.on j false) sets_are place ∙ column_at on_in most_keys false c.sets i false no_entry within

    number_is : get_or t.sets.confirmed at 0 ≡ held.stamp
    unfolding store_sets confirmed_in held
    number_is = ap₂ (λ (u : Sets) (j : ℕ). get_or u.confirmed j 0) sets_are place ∙ column_at confirmed_in most_keys 0 c.sets i 0 no_entry within

    -- its set is taken out of the totals
    totals_are : (n : Totals) → n ≡ without_set t.totals (get_or t.sets.shown at past).len (get_or t.sets.on at false) → n ≡ totals_of (forgotten k c)
    unfolding forgotten totals_of held i
    totals_are n q =
        q ∙ (λ j. without_set (e j).totals (set_is j).len (on_is j)) ∙ sums_forgotten c.sets (sets_meet_law c m) k h

    pub forgets_held : (left : Sets) → left ≡ shut_sets t.sets at
        → (n : Totals) → n ≡ without_set t.totals (get_or t.sets.shown at past).len (get_or t.sets.on at false)
        → (u : Table) → u ≡ table_of left n t.blocks → record { outcome = Done; table = u } ≡ forgotten_as k c
    unfolding forgotten_as forget_outcome held_or forgotten
    forgets_held left q n v u r =
        let l : u ≡ store_table (forgotten k c) =
        r ∙ (λ j. table_of ((q ∙ store_forgets t.sets c.sets sets_are k at p ((table_rules c.sets).0 (sets_meet_law c m)).short h) j) (totals_are n v j) (e j).blocks) in
        let o : Done ≡ held_or (find linkage k c.sets) Done = sym (ap (λ (f : Option Held). held_or f Done) (find_here linkage lawful no_entry c.sets k h)) in
        λ j. record { outcome = o j; table = l j }

    key_is : held.key ≡ k
    unfolding held i
    key_is = h.1

    set_meets_law : if_there held.key held.shown ≡ true
    unfolding held
    set_meets_law = ((entry_rules held).0 (entry_at_law c.sets ((table_rules c.sets).0 (sets_meet_law c m)).entries i within)).shown

    pub copies_held : (ns ks : List ℕ) → copy_stored (get_or t.sets.shown at past) k (get_or t.sets.on at false) (get_or t.sets.confirmed at 0) ns ks ≡ copy_out k c ns ks
    unfolding copy_out copy_held held i
    copies_held ns ks =
        (λ j. copy_stored (set_is j) (sym key_is j) (on_is j) (number_is j) ns ks)
        ∙ copy_stored_law held.key held held.shown ns ks set_meets_law
        ∙ sym (ap (λ (f : Option Held). copy_held f ns ks) (find_here linkage lawful no_entry c.sets k h))
