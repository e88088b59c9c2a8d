-- The laws of collecting, over any family whose tests are lawful. In this order: what lawful tests are; entries and their
-- keys; looking a key up after replacing, inserting, storing, THE law (looking any key up after a field), after dropping open
-- lists; what holds of every entry; room; ascending keys; looking up after forgetting; adding items; what holds of every list
-- that fields make.
use Prim.Native.Nat.{suc, ◌+◌, ◌≤◌}
use native.Mathlib.Omega.{arith}
use mathlib.Core.Path.{◌≡◌, refl, sym, ◌∙◌, ap, subst}
use mathlib.Core.Bool.{Bool, true, false, cond, ◌||◌}
use mathlib.Core.List.{List, [], ◌∷◌, ◌++◌, append-nil, append_assoc}
use mathlib.Core.Option.{Option, none, some, map}
use lib.ListN.{length, length-append, length-map}
use lib.Dec.{leb, ltb}
use borrow.Author.Tests.{ltb-true, leb-true}
use Rattle.rules.specs.declared.Note.{Note}
use Rattle.rules.specs.Family.{Family, Listed, Act, start, continuation, no_list, drops, Said, Entry, member, added, added_all, opening, extended, entry_with, started, continued, on_held, fresh, on_unheld, kept, effect, find, replace, insert, store, step, steps, closed, drop_open, forget}
use Rattle.rules.specs.Receptions.{held_keys}
use Rattle.rules.proofs.Basics.{cases_bool, true-false, never_true, none_some, or_false_left, or_false_right, or_neither, cond_both, cond_cases, cond_twice, cond_order, Every, every_imp, every_map, every_append, Within, within_if, within_imp}

-- the tests of a family decide equality of keys and of items, and its order of keys is a strict total one
pub record Lawful (F : Family) : Type 0 where
  pub same_is : (k l : F.Key) → F.same_key k l ≡ true → k ≡ l
  pub same_self : (k : F.Key) → F.same_key k k ≡ true
  pub before_self : (k : F.Key) → F.key_before k k ≡ false
  pub before_trans : (j k l : F.Key) → F.key_before j k ≡ true → F.key_before k l ≡ true → F.key_before j l ≡ true
  pub before_or : (k l : F.Key) → F.key_before k l ≡ false → F.same_key k l ≡ false → F.key_before l k ≡ true
  pub item_is : (x y : F.Item) → F.same_item x y ≡ true → x ≡ y
  pub item_self : (x : F.Item) → F.same_item x x ≡ true

-- ---- entries and their keys

module _ (F : Family) where
  open F use {Key, State, Stamp, room, most}

  pub started_key : (e : Entry F) (s : State) (p : Stamp) (l : Listed F) (d : Option (Listed F)) → (started F e s p l d).0.key ≡ e.key
  unfolding started entry_with
  started_key e s p l none = refl
  started_key e s p l (some d) = refl

  pub continued_key : (e : Entry F) (s : State) (l : Listed F) (d : Option (Listed F)) → (continued F e s l d).0.key ≡ e.key
  unfolding continued entry_with
  continued_key e s l none = refl
  continued_key e s l (some d) = cond_both (λ (r : Entry F × Note). r.0.key ≡ e.key) (leb (length (extended F d l).items) most) _ _ refl refl

  -- a field leaves the key of a held entry
  pub on_held_key : (e : Entry F) (s : State) (p : Stamp) (a : Act F) → (on_held F e s p a).0.key ≡ e.key
  unfolding on_held entry_with
  on_held_key e s p (start l) = started_key e s p l e.draft
  on_held_key e s p (continuation l) = continued_key e s l e.draft
  on_held_key e s p no_list = refl
  on_held_key e s p drops = refl

  pub on_unheld_key : (r : Bool) (k : Key) (s : State) (a : Act F) → Within (λ e. e.key ≡ k) (on_unheld F r k s a).0
  unfolding on_unheld fresh
  on_unheld_key true k s (start l) = refl
  on_unheld_key false k s (start l) = tt
  on_unheld_key r k s (continuation l) = tt
  on_unheld_key r k s no_list = tt
  on_unheld_key r k s drops = tt

  -- the entry that a field of a held key leaves, of one that is not held
  pub effect_key : (r : Bool) (f : Said F) (o : Option (Entry F)) → Within (λ e. e.key ≡ f.key) o
      → Within (λ e. e.key ≡ f.key) (effect F r f o).0
  unfolding effect kept
  effect_key r f none h = on_unheld_key r f.key f.state f.act
  effect_key r f (some e) h = on_held_key e f.state f.stamp f.act ∙ h

  -- the note of a field is its effect's
  pub note_step : (t : List (Entry F)) (f : Said F) → (step F t f).1 ≡ (effect F (ltb (length t) room) f (find F f.key t)).1
  unfolding step
  note_step t f = refl

  -- one note a field
  pub steps_notes : (t : List (Entry F)) (fs : List (Said F)) → length (steps F t fs).1 ≡ length fs
  unfolding steps
  steps_notes t [] = refl
  steps_notes t (f ∷ fs) = ap suc (steps_notes (step F t f).0 fs)

  -- fields after fields, and their notes: waits for R-10 and R-12 (document 02)
  pub steps_append : (t : List (Entry F)) (fs gs : List (Said F)) → (steps F t (fs ++ gs)).0 ≡ (steps F (steps F t fs).0 gs).0
  unfolding steps
  steps_append t [] gs = refl
  steps_append t (f ∷ fs) gs = steps_append (step F t f).0 fs gs

  pub notes_append : (t : List (Entry F)) (fs gs : List (Said F))
      → (steps F t (fs ++ gs)).1 ≡ (steps F t fs).1 ++ (steps F (steps F t fs).0 gs).1
  unfolding steps
  notes_append t [] gs = refl
  notes_append t (f ∷ fs) gs = ap (◌∷◌ (step F t f).1) (notes_append (step F t f).0 fs gs)

-- ---- looking a key up

module _ (F : Family) (L : Lawful F) where
  open F use {Key, same_key, key_before, room}

  -- equal keys test the same, others do not
  pub differ_sym : (k l : Key) → same_key k l ≡ false → same_key l k ≡ false
  differ_sym k l h =
      cases_bool (same_key l k)
      (λ e. true-false (subst (λ (x : Key). same_key k x ≡ true) (sym (L.same_is l k e)) (L.same_self k)) h)
      (λ e. e)

  pub before_differ : (k l : Key) → key_before k l ≡ true → same_key k l ≡ false
  before_differ k l h =
      cases_bool (same_key k l)
      (λ e. true-false (subst (λ (x : Key). key_before k x ≡ true) (sym (L.same_is k l e)) h) (L.before_self k))
      (λ e. e)

  -- a key that comes after another is not the same, and not before it
  pub after_differ : (k l : Key) → key_before l k ≡ true → same_key k l ≡ false
  after_differ k l h = differ_sym l k (before_differ l k h)

  pub after_not_before : (k l : Key) → key_before l k ≡ true → key_before k l ≡ false
  after_not_before k l h = never_true (key_before k l) (λ e. true-false (L.before_trans k l k e h) (L.before_self k))

  -- what is found under a key has that key
  pub find_key : (k : Key) (t : List (Entry F)) (e : Entry F) → find F k t ≡ some e → e.key ≡ k
  unfolding find
  find_key k [] e = λ h. none_some refl h
  find_key k (x ∷ xs) e =
      cond_cases (λ (o : Option (Entry F)). o ≡ some e → e.key ≡ k) (same_key k x.key) (some x) (find F k xs)
      (λ s h. let p : x ≡ e = cc in sym (L.same_is k x.key s ∙ ap (λ (y : Entry F). y.key) p))
      (λ s h. find_key k xs e h)

  pub found_key : (k : Key) (t : List (Entry F)) → Within (λ e. e.key ≡ k) (find F k t)
  found_key k t = within_if (λ e. e.key ≡ k) (find F k t) (find_key k t)

  -- the entry of another key is looked up past an entry
  pub find_past : (k : Key) (x : Entry F) (xs : List (Entry F)) → same_key k x.key ≡ false → find F k (x ∷ xs) ≡ find F k xs
  unfolding find
  find_past k x xs h = rw h

  pub find_here : (k : Key) (x : Entry F) (xs : List (Entry F)) → same_key k x.key ≡ true → find F k (x ∷ xs) ≡ some x
  unfolding find
  find_here k x xs h = rw h

  -- where nothing is found, the first entry has another key and nothing is found after it
  pub find_none_past : (k : Key) (x : Entry F) (xs : List (Entry F)) → find F k (x ∷ xs) ≡ none
      → (same_key k x.key ≡ false) × (find F k xs ≡ none)
  find_none_past k x xs h =
      cases_bool (same_key k x.key)
      (λ s. none_some h (find_here k x xs s))
      (λ s. (s, sym (find_past k x xs s) ∙ h))

  -- the key of an entry tests alike against any key
  pub same_along : (k l m : Key) → same_key l m ≡ true → same_key k l ≡ same_key k m
  same_along k l m h = ap (same_key k) (L.same_is l m h)

  -- a key is not the same as two others that differ
  pub not_both : (j k l : Key) → same_key k l ≡ false → same_key j l ≡ true → same_key j k ≡ true → ⊥
  not_both j k l h p q = true-false (subst (λ (x : Key). same_key x l ≡ true) (L.same_is j k q) p) h

  -- where the key of the new entry is held, any key is looked up so
  pub find_replace : (k : Key) (e old : Entry F) (t : List (Entry F)) → find F e.key t ≡ some old
      → find F k (replace F e t) ≡ cond (same_key k e.key) (some e) (find F k t)
  unfolding find replace
  find_replace k e old [] h = none_some refl h
  find_replace k e old (x ∷ xs) h =
      let here : same_key e.key x.key ≡ true → find F k (replace F e (x ∷ xs)) ≡ cond (same_key k e.key) (some e) (find F k (x ∷ xs)) =
      λ s. rw s (rw (← same_along k e.key x.key s) (sym (cond_twice (same_key k e.key) (some e) (some x) (find F k xs)))) in
      let on : same_key e.key x.key ≡ false → find F k (replace F e (x ∷ xs)) ≡ cond (same_key k e.key) (some e) (find F k (x ∷ xs)) =
      λ s. rw s (rw (find_replace k e old xs (sym (find_past e.key x xs s) ∙ h))
      (cond_order (same_key k x.key) (same_key k e.key) (some x) (some e) (find F k xs) (not_both k e.key x.key s))) in
      cases_bool (same_key e.key x.key) here on

  -- where the key of the new entry is not held, too
  pub find_insert : (k : Key) (e : Entry F) (t : List (Entry F)) → find F e.key t ≡ none
      → find F k (insert F e t) ≡ cond (same_key k e.key) (some e) (find F k t)
  unfolding find insert
  find_insert k e [] h = refl
  find_insert k e (x ∷ xs) h =
      let p = find_none_past e.key x xs h in
      cases_bool (key_before e.key x.key) (λ b. rw b)
      (λ b. rw b (rw (find_insert k e xs p.1)
      (cond_order (same_key k x.key) (same_key k e.key) (some x) (some e) (find F k xs) (not_both k e.key x.key p.0))))

  -- what there was of a key and what there is now, put into the table: any key is looked up so
  pub find_store : (k l : Key) (old new : Option (Entry F)) (t : List (Entry F)) → find F l t ≡ old → Within (λ e. e.key ≡ l) new
      → (new ≡ none → old ≡ none) → find F k (store F old new t) ≡ cond (same_key k l) new (find F k t)
  unfolding store
  find_store k l old none t h e gone =
      cases_bool (same_key k l)
      (λ s. rw s (rw (L.same_is k l s) (h ∙ gone refl)))
      (λ s. rw s)
  find_store k l none (some x) t h e gone = rw (← e) (find_insert k x t (rw e h))
  find_store k l (some y) (some x) t h e gone = rw (← e) (find_replace k x y t (rw e h))

  -- a field takes no key out of the table
  pub effect_keeps : (r : Bool) (f : Said F) (o : Option (Entry F)) → (effect F r f o).0 ≡ none → o ≡ none
  unfolding effect kept
  effect_keeps r f none h = refl
  effect_keeps r f (some e) h = none_some h refl

  -- THE law: looking any key up after a field
  pub find_step : (k : Key) (t : List (Entry F)) (f : Said F)
      → find F k (step F t f).0 ≡ cond (same_key k f.key) (effect F (ltb (length t) room) f (find F k t)).0 (find F k t)
  unfolding step
  find_step k t f =
      let r = ltb (length t) room in
      let old = find F f.key t in
      let law = find_store k f.key old (effect F r f old).0 t refl (effect_key F r f old (found_key f.key t)) (effect_keeps r f old) in
      cases_bool (same_key k f.key)
      (λ s. law ∙ ap (λ (x : Key). cond (same_key k f.key) (effect F r f (find F x t)).0 (find F k t)) (sym (L.same_is k f.key s)))
      (λ s. law ∙ rw s)

  pub find_step_own : (t : List (Entry F)) (f : Said F)
      → find F f.key (step F t f).0 ≡ (effect F (ltb (length t) room) f (find F f.key t)).0
  find_step_own t f = find_step f.key t f ∙ rw (L.same_self f.key)

  pub find_step_other : (k : Key) (t : List (Entry F)) (f : Said F) → same_key k f.key ≡ false → find F k (step F t f).0 ≡ find F k t
  find_step_other k t f h = find_step k t f ∙ rw h

  -- fields of other keys leave what is held of a key: waits for R-10 to R-12 (document 02)
  pub find_steps_other : (k : Key) (t : List (Entry F)) (fs : List (Said F)) → Every (λ f. same_key k f.key ≡ false) fs
      → find F k (steps F t fs).0 ≡ find F k t
  unfolding steps
  find_steps_other k t [] h = refl
  find_steps_other k t (f ∷ fs) h = find_steps_other k (step F t f).0 fs h.1 ∙ find_step_other k t f h.0

-- ---- looking up after open lists are dropped

module _ (F : Family) where
  open F use {Key, same_key, key_before}

  pub find_drop : (k : Key) (t : List (Entry F)) → find F k (drop_open F t) ≡ map (closed F) (find F k t)
  unfolding find drop_open closed entry_with
  find_drop k [] = refl
  find_drop k (e ∷ es) =
      cases_bool (same_key k e.key) (λ s. rw s) (λ s. rw s (find_drop k es))

  -- ---- what holds of every entry

  pub every_found : (P : Entry F → Type 0) (k : Key) (t : List (Entry F)) → Every P t → Within P (find F k t)
  unfolding find
  every_found P k [] h = tt
  every_found P k (e ∷ es) h =
      cond_both (Within P) (same_key k e.key) (some e) (find F k es) h.0 (every_found P k es h.1)

  pub every_replace : (P : Entry F → Type 0) (e : Entry F) (t : List (Entry F)) → P e → Every P t → Every P (replace F e t)
  unfolding replace
  every_replace P e [] p h = tt
  every_replace P e (x ∷ xs) p h =
      cond_both (Every P) (same_key e.key x.key) (e ∷ xs) (x ∷ replace F e xs) (p, h.1) (h.0, every_replace P e xs p h.1)

  pub every_insert : (P : Entry F → Type 0) (e : Entry F) (t : List (Entry F)) → P e → Every P t → Every P (insert F e t)
  unfolding insert
  every_insert P e [] p h = (p, tt)
  every_insert P e (x ∷ xs) p h =
      cond_both (Every P) (key_before e.key x.key) (e ∷ x ∷ xs) (x ∷ insert F e xs) (p, h) (h.0, every_insert P e xs p h.1)

  pub every_store : (P : Entry F → Type 0) (old new : Option (Entry F)) (t : List (Entry F)) → Within P new → Every P t
      → Every P (store F old new t)
  unfolding store
  every_store P old none t p h = h
  every_store P none (some e) t p h = every_insert P e t p h
  every_store P (some x) (some e) t p h = every_replace P e t p h

  pub every_forget : (P : Entry F → Type 0) (k : Key) (t : List (Entry F)) → Every P t → Every P (forget F k t)
  unfolding forget
  every_forget P k [] h = tt
  every_forget P k (e ∷ es) h =
      cond_both (Every P) (same_key k e.key) es (e ∷ forget F k es) h.1 (h.0, every_forget P k es h.1)

  pub every_drop_open : (P : Entry F → Type 0) (t : List (Entry F)) → ((e : Entry F) → P e → P (closed F e)) → Every P t
      → Every P (drop_open F t)
  unfolding drop_open
  every_drop_open P t c h = every_map P (closed F) t (every_imp P (λ e. P (closed F e)) c t h)

  -- what a field keeps of every entry: what it makes of the entry of its key, and of none
  abbrev pub Keeps : (Entry F → Type 0) → Said F → Type 0
  Keeps P f = (r : Bool) (o : Option (Entry F)) → Within (λ e. e.key ≡ f.key) o → Within P o → Within P (effect F r f o).0

  -- what its own key has
  pub keeps_key : (P : Key → Type 0) (f : Said F) → P f.key → Keeps (λ e. P e.key) f
  keeps_key P f p r o w h =
      within_imp (λ e. e.key ≡ f.key) (λ e. P e.key) (λ e q. rw q p) (effect F r f o).0 (effect_key F r f o w)

module _ (F : Family) (L : Lawful F) where
  open F use {room}

  pub every_step : (P : Entry F → Type 0) (t : List (Entry F)) (f : Said F) → Keeps F P f → Every P t → Every P (step F t f).0
  unfolding step
  every_step P t f c h =
      every_store F P (find F f.key t) (effect F (ltb (length t) room) f (find F f.key t)).0 t
      (c (ltb (length t) room) (find F f.key t) (found_key F L f.key t) (every_found F P f.key t h))
      h

  pub every_steps : (P : Entry F → Type 0) (t : List (Entry F)) (fs : List (Said F)) → Every (Keeps F P) fs → Every P t
      → Every P (steps F t fs).0
  unfolding steps
  every_steps P t [] c h = h
  every_steps P t (f ∷ fs) c h = every_steps P (step F t f).0 fs c.1 (every_step P t f c.0 h)

-- ---- room

module _ (F : Family) where
  open F use {Key, same_key, key_before, State, room}

  pub length_replace : (e : Entry F) (t : List (Entry F)) → length (replace F e t) ≡ length t
  unfolding replace
  length_replace e [] = refl
  length_replace e (x ∷ xs) =
      cond_both (λ (u : List (Entry F)). length u ≡ suc (length xs)) (same_key e.key x.key) (e ∷ xs) (x ∷ replace F e xs)
      refl (ap suc (length_replace e xs))

  pub length_insert : (e : Entry F) (t : List (Entry F)) → length (insert F e t) ≡ suc (length t)
  unfolding insert
  length_insert e [] = refl
  length_insert e (x ∷ xs) =
      cond_both (λ (u : List (Entry F)). length u ≡ suc (suc (length xs))) (key_before e.key x.key) (e ∷ x ∷ xs) (x ∷ insert F e xs)
      refl (ap suc (length_insert e xs))

  pub length_forget : (k : Key) (t : List (Entry F)) → length (forget F k t) ≤ length t
  unfolding forget
  length_forget k [] = omega arith
  length_forget k (e ∷ es) =
      cond_both (λ (u : List (Entry F)). length u ≤ suc (length es)) (same_key k e.key) es (e ∷ forget F k es)
      (omega arith) (omega (arith, length_forget k es))

  pub length_drop_open : (t : List (Entry F)) → length (drop_open F t) ≡ length t
  unfolding drop_open
  length_drop_open t = length-map t (closed F)

  -- without room, a key that is not held stays so
  pub unheld_full : (k : Key) (s : State) (a : Act F) → (on_unheld F false k s a).0 ≡ none
  unfolding on_unheld
  unheld_full k s (start l) = refl
  unheld_full k s (continuation l) = refl
  unheld_full k s no_list = refl
  unheld_full k s drops = refl

  pub store_same : (old : Option (Entry F)) (t : List (Entry F)) → store F old none t ≡ t
  unfolding store
  store_same old t = refl

  -- a held key needs no room
  pub length_store_held : (x : Entry F) (new : Option (Entry F)) (t : List (Entry F)) → length (store F (some x) new t) ≡ length t
  unfolding store
  length_store_held x none t = refl
  length_store_held x (some e) t = length_replace e t

  pub length_store_new : (new : Option (Entry F)) (t : List (Entry F)) → length (store F none new t) ≤ suc (length t)
  unfolding store
  length_store_new none t = omega arith
  length_store_new (some e) t = omega (arith, length_insert e t)

  -- a table never grows past its room
  pub room_store : (f : Said F) (o : Option (Entry F)) (t : List (Entry F)) → length t ≤ room
      → length (store F o (effect F (ltb (length t) room) f o).0 t) ≤ room
  unfolding effect
  room_store f (some x) t h = omega (arith, length_store_held x (effect F (ltb (length t) room) f (some x)).0 t)
  room_store f none t h =
      cases_bool (ltb (length t) room)
      (λ r. omega (arith, ltb-true (length t) room r, length_store_new (on_unheld F (ltb (length t) room) f.key f.state f.act).0 t))
      (λ r. rw r (rw (unheld_full f.key f.state f.act) (rw (store_same none t) h)))

  pub room_step : (t : List (Entry F)) (f : Said F) → length t ≤ room → length (step F t f).0 ≤ room
  unfolding step
  room_step t f h = room_store f (find F f.key t) t h

  pub room_steps : (t : List (Entry F)) (fs : List (Said F)) → length t ≤ room → length (steps F t fs).0 ≤ room
  unfolding steps
  room_steps t [] h = h
  room_steps t (f ∷ fs) h = room_steps (step F t f).0 fs (room_step t f h)

-- ---- keys ascend

-- keys that come after one, and keys each of which comes after those before it
module _ (F : Family) where
  abbrev pub After : F.Key → List F.Key → Type 0
  After k ks = Every (λ l. F.key_before k l ≡ true) ks

  abbrev pub Ascends : List F.Key → Type 0
  Ascends [] = Unit {0}
  Ascends (k ∷ ks) = After k ks × Ascends ks

  pub keys_drop_open : (t : List (Entry F)) → held_keys F (drop_open F t) ≡ held_keys F t
  unfolding drop_open closed entry_with
  keys_drop_open [] = refl
  keys_drop_open (e ∷ es) = ap (◌∷◌ e.key) (keys_drop_open es)

  pub keys_every : (P : F.Key → Type 0) (t : List (Entry F)) → Every (λ e. P e.key) t → Every P (held_keys F t)
  keys_every P t h = every_map P (λ e. e.key) t h

  pub every_keys : (P : F.Key → Type 0) (t : List (Entry F)) → Every P (held_keys F t) → Every (λ e. P e.key) t
  every_keys P [] h = tt
  every_keys P (e ∷ es) h = (h.0, every_keys P es h.1)

module _ (F : Family) (L : Lawful F) where
  open F use {Key, same_key, key_before, room}

  pub keys_replace : (e : Entry F) (t : List (Entry F)) → held_keys F (replace F e t) ≡ held_keys F t
  unfolding replace
  keys_replace e [] = refl
  keys_replace e (x ∷ xs) =
      cond_cases (λ (u : List (Entry F)). held_keys F u ≡ x.key ∷ held_keys F xs) (same_key e.key x.key) (e ∷ xs) (x ∷ replace F e xs)
      (λ s. ap (λ (k : Key). k ∷ held_keys F xs) (L.same_is e.key x.key s))
      (λ s. ap (◌∷◌ x.key) (keys_replace e xs))

  -- nothing is held of a key that comes before all
  pub after_none : (k : Key) (t : List (Entry F)) → After F k (held_keys F t) → find F k t ≡ none
  after_none k [] h = unfold find in refl
  after_none k (e ∷ es) h = find_past F L k e es (before_differ F L k e.key h.0) ∙ after_none k es h.1

  pub after_through : (j k : Key) (ks : List Key) → key_before j k ≡ true → After F k ks → After F j ks
  after_through j k ks b h = every_imp (λ l. key_before k l ≡ true) (λ l. key_before j l ≡ true) (λ l. L.before_trans j k l b) ks h

  pub after_insert : (k : Key) (e : Entry F) (t : List (Entry F)) → key_before k e.key ≡ true → After F k (held_keys F t)
      → After F k (held_keys F (insert F e t))
  after_insert k e t b h =
      keys_every F (λ l. key_before k l ≡ true) (insert F e t)
      (every_insert F (λ x. key_before k x.key ≡ true) e t b (every_keys F (λ l. key_before k l ≡ true) t h))

  pub after_forget : (k l : Key) (t : List (Entry F)) → After F k (held_keys F t) → After F k (held_keys F (forget F l t))
  after_forget k l t h =
      keys_every F (λ l. key_before k l ≡ true) (forget F l t)
      (every_forget F (λ x. key_before k x.key ≡ true) l t (every_keys F (λ l. key_before k l ≡ true) t h))

  pub ascends_insert : (e : Entry F) (t : List (Entry F)) → find F e.key t ≡ none → Ascends F (held_keys F t)
      → Ascends F (held_keys F (insert F e t))
  unfolding insert
  ascends_insert e [] n h = (tt, tt)
  ascends_insert e (x ∷ xs) n h =
      let p = find_none_past F L e.key x xs n in
      cond_cases (λ (u : List (Entry F)). Ascends F (held_keys F u)) (key_before e.key x.key) (e ∷ x ∷ xs) (x ∷ insert F e xs)
      (λ b. ((b, after_through e.key x.key (held_keys F xs) b h.0), h))
      (λ b. (after_insert x.key e xs (L.before_or e.key x.key b p.0) h.0, ascends_insert e xs p.1 h.1))

  pub ascends_store : (old new : Option (Entry F)) (l : Key) (t : List (Entry F)) → find F l t ≡ old → Within (λ e. e.key ≡ l) new
      → Ascends F (held_keys F t) → Ascends F (held_keys F (store F old new t))
  unfolding store
  ascends_store old none l t n w h = h
  ascends_store none (some e) l t n w h = ascends_insert e t (rw w n) h
  ascends_store (some x) (some e) l t n w h = rw (keys_replace e t) h

  pub ascends_step : (t : List (Entry F)) (f : Said F) → Ascends F (held_keys F t) → Ascends F (held_keys F (step F t f).0)
  unfolding step
  ascends_step t f h =
      let old = find F f.key t in
      ascends_store old (effect F (ltb (length t) room) f old).0 f.key t refl
      (effect_key F (ltb (length t) room) f old (found_key F L f.key t)) h

  pub ascends_steps : (t : List (Entry F)) (fs : List (Said F)) → Ascends F (held_keys F t) → Ascends F (held_keys F (steps F t fs).0)
  unfolding steps
  ascends_steps t [] h = h
  ascends_steps t (f ∷ fs) h = ascends_steps (step F t f).0 fs (ascends_step t f h)

  pub ascends_drop_open : (t : List (Entry F)) → Ascends F (held_keys F t) → Ascends F (held_keys F (drop_open F t))
  ascends_drop_open t h = rw (keys_drop_open F t) h

  pub ascends_forget : (k : Key) (t : List (Entry F)) → Ascends F (held_keys F t) → Ascends F (held_keys F (forget F k t))
  unfolding forget
  ascends_forget k [] h = tt
  ascends_forget k (e ∷ es) h =
      cond_both (λ (u : List (Entry F)). Ascends F (held_keys F u)) (same_key k e.key) es (e ∷ forget F k es)
      h.1 (after_forget e.key k es h.0, ascends_forget k es h.1)

  -- ---- looking up after a key is forgotten: it is gone, since keys differ, and the others are as they were

  pub find_forget_other : (k l : Key) (t : List (Entry F)) → same_key k l ≡ false → find F k (forget F l t) ≡ find F k t
  unfolding forget find
  find_forget_other k l [] d = refl
  find_forget_other k l (e ∷ es) d =
      cond_cases (λ (u : List (Entry F)). find F k u ≡ find F k (e ∷ es)) (same_key l e.key) es (e ∷ forget F l es)
      (λ s. rw (← same_along F L k l e.key s) (rw d))
      (λ s. rw (find_forget_other k l es d))

  pub find_forget_own : (k : Key) (t : List (Entry F)) → Ascends F (held_keys F t) → find F k (forget F k t) ≡ none
  unfolding forget
  find_forget_own k [] h = unfold find in refl
  find_forget_own k (e ∷ es) h =
      cond_cases (λ (u : List (Entry F)). find F k u ≡ none) (same_key k e.key) es (e ∷ forget F k es)
      (λ s. after_none k es (rw (L.same_is k e.key s) h.0))
      (λ s. find_past F L k e (forget F k es) s ∙ find_forget_own k es h.1)

  pub find_forget : (k l : Key) (t : List (Entry F)) → Ascends F (held_keys F t)
      → find F k (forget F l t) ≡ cond (same_key k l) none (find F k t)
  find_forget k l t h =
      cases_bool (same_key k l)
      (λ s. rw s (rw (L.same_is k l s) (find_forget_own l t h)))
      (λ s. rw s (find_forget_other k l t s))

  -- a key that is not held is forgotten already
  pub forget_none : (k : Key) (t : List (Entry F)) → find F k t ≡ none → forget F k t ≡ t
  unfolding forget
  forget_none k [] h = refl
  forget_none k (e ∷ es) h = let p = find_none_past F L k e es h in rw p.0 (ap (◌∷◌ e) (forget_none k es p.1))

-- ---- items: adding

module _ (F : Family) where
  open F use {Key, Item, same_item, State, Stamp, most}

  -- items of which none stands twice
  abbrev pub Different : List Item → Type 0
  Different [] = Unit {0}
  Different (x ∷ xs) = (member F x xs ≡ false) × Different xs

  pub member_append : (x : Item) (xs ys : List Item) → member F x (xs ++ ys) ≡ (member F x xs || member F x ys)
  unfolding member
  member_append x [] ys = refl
  member_append x (z ∷ zs) ys =
      cases_bool (same_item x z) (λ s. rw s) (λ s. rw s (member_append x zs ys))

  pub different_left : (xs ys : List Item) → Different (xs ++ ys) → Different xs
  different_left [] ys d = tt
  different_left (x ∷ xs) ys d =
      (or_false_left (member F x xs) (member F x ys) (sym (member_append x xs ys) ∙ d.0), different_left xs ys d.1)

  -- what is added comes at the end
  pub added_grows : (xs : List Item) (x : Item) → (r : List Item) × (added F xs x ≡ xs ++ r)
  unfolding added
  added_grows xs x =
      cases_bool (member F x xs) (λ m. ([], rw m (sym (append-nil xs)))) (λ m. (x ∷ [], rw m))

  pub added_all_grows : (xs ys : List Item) → (r : List Item) × (added_all F xs ys ≡ xs ++ r)
  unfolding added_all
  added_all_grows xs [] = ([], sym (append-nil xs))
  added_all_grows xs (y ∷ ys) =
      let a = added_grows xs y in
      let b = added_all_grows (added F xs y) ys in
      (a.0 ++ b.0, b.1 ∙ ap (λ (l : List Item). l ++ b.0) a.1 ∙ append_assoc xs a.0 b.0)

  -- the first stays the first
  pub added_all_first : (x : Item) (xs ys : List Item) → (r : List Item) × (added_all F (x ∷ xs) ys ≡ x ∷ r)
  added_all_first x xs ys = let g = added_all_grows (x ∷ xs) ys in (xs ++ g.0, g.1)

  -- the first of a new list is the first that was brought
  pub opening_first : (x : Item) (xs : List Item) → (r : List Item) × (added_all F [] (x ∷ xs) ≡ x ∷ r)
  unfolding added_all added member
  opening_first x xs = added_all_first x [] xs

  pub length_added : (xs : List Item) (x : Item) → length (added F xs x) ≤ suc (length xs)
  unfolding added
  length_added xs x =
      cond_both (λ (l : List Item). length l ≤ suc (length xs)) (member F x xs) xs (xs ++ x ∷ [])
      (omega arith) (omega (arith, length-append xs (x ∷ [])))

  pub length_added_all : (xs ys : List Item) → length (added_all F xs ys) ≤ length xs + length ys
  unfolding added_all
  length_added_all xs [] = omega arith
  length_added_all xs (y ∷ ys) = omega (arith, length_added_all (added F xs y) ys, length_added xs y)

  pub every_added : (P : Item → Type 0) (xs : List Item) (x : Item) → Every P xs → P x → Every P (added F xs x)
  unfolding added
  every_added P xs x h p = cond_both (Every P) (member F x xs) xs (xs ++ x ∷ []) h (every_append P xs (x ∷ []) h (p, tt))

  pub every_added_all : (P : Item → Type 0) (xs ys : List Item) → Every P xs → Every P ys → Every P (added_all F xs ys)
  unfolding added_all
  every_added_all P xs [] h p = h
  every_added_all P xs (y ∷ ys) h p = every_added_all P (added F xs y) ys (every_added P xs y h p.0) p.1

  -- ---- what holds of every list

  -- a property of the lists under a key, of what is shown and of what is open
  abbrev pub Lists : (Key → Listed F → Type 0) → Entry F → Type 0
  Lists Q e = Within (Q e.key) e.shown × Within (Q e.key) e.draft

  -- a field's lists have it: the one that a start opens, and any that has it once a continuation is added and not too long
  abbrev pub Brings : (Key → Listed F → Type 0) → Key → Act F → Type 0
  Brings Q k (start l) = Q k (opening F l)
  Brings Q k (continuation m) = (d : Listed F) → Q k d → length (extended F d m).items ≤ most → Q k (extended F d m)
  Brings Q k no_list = Unit {0}
  Brings Q k drops = Unit {0}

  pub lists_started : (Q : Key → Listed F → Type 0) (e : Entry F) (s : State) (p : Stamp) (l : Listed F) (d : Option (Listed F))
      → Within (Q e.key) e.shown → Within (Q e.key) d → Q e.key (opening F l) → Lists Q (started F e s p l d).0
  unfolding started entry_with
  lists_started Q e s p l none sh h q = (sh, q)
  lists_started Q e s p l (some d) sh h q = (h, q)

  pub lists_continued : (Q : Key → Listed F → Type 0) (e : Entry F) (s : State) (m : Listed F) (d : Option (Listed F))
      → Within (Q e.key) e.shown → Within (Q e.key) d → Brings Q e.key (continuation m) → Lists Q (continued F e s m d).0
  unfolding continued entry_with
  lists_continued Q e s m none sh h q = (sh, tt)
  lists_continued Q e s m (some d) sh h q =
      cond_cases (λ (r : Entry F × Note). Lists Q r.0) (leb (length (extended F d m).items) most) _ _
      (λ le. (sh, q d h (leb-true (length (extended F d m).items) most le)))
      (λ gt. (sh, tt))

  pub lists_held : (Q : Key → Listed F → Type 0) (e : Entry F) (s : State) (p : Stamp) (a : Act F) → Lists Q e → Brings Q e.key a
      → Lists Q (on_held F e s p a).0
  unfolding on_held entry_with
  lists_held Q e s p (start l) h q = lists_started Q e s p l e.draft h.0 h.1 q
  lists_held Q e s p (continuation m) h q = lists_continued Q e s m e.draft h.0 h.1 q
  lists_held Q e s p no_list h q = h
  lists_held Q e s p drops h q = (h.0, tt)

  pub lists_unheld : (Q : Key → Listed F → Type 0) (r : Bool) (k : Key) (s : State) (a : Act F) → Brings Q k a
      → Within (Lists Q) (on_unheld F r k s a).0
  unfolding on_unheld fresh
  lists_unheld Q true k s (start l) q = (tt, q)
  lists_unheld Q false k s (start l) q = tt
  lists_unheld Q r k s (continuation l) q = tt
  lists_unheld Q r k s no_list q = tt
  lists_unheld Q r k s drops q = tt

  -- fields keep a property that their lists have
  pub lists_keep : (Q : Key → Listed F → Type 0) (f : Said F) → Brings Q f.key f.act → Keeps F (Lists Q) f
  unfolding effect kept
  lists_keep Q f q r none w h = lists_unheld Q r f.key f.state f.act q
  lists_keep Q f q r (some e) w h = lists_held Q e f.state f.stamp f.act h (rw w q)

  pub lists_closed : (Q : Key → Listed F → Type 0) (e : Entry F) → Lists Q e → Lists Q (closed F e)
  unfolding closed entry_with
  lists_closed Q e h = (h.0, tt)

module _ (F : Family) (L : Lawful F) where
  open F use {Key, Item, same_item}

  pub lists_steps : (Q : Key → Listed F → Type 0) (t : List (Entry F)) (fs : List (Said F)) → Every (λ f. Brings F Q f.key f.act) fs
      → Every (Lists F Q) t → Every (Lists F Q) (steps F t fs).0
  lists_steps Q t fs q h =
      every_steps F L (Lists F Q) t fs (every_imp (λ f. Brings F Q f.key f.act) (Keeps F (Lists F Q)) (lists_keep F Q) fs q) h

  -- items stay different
  pub item_differ_sym : (x y : Item) → same_item x y ≡ false → same_item y x ≡ false
  item_differ_sym x y h =
      cases_bool (same_item y x)
      (λ e. true-false (subst (λ (z : Item). same_item x z ≡ true) (sym (L.item_is y x e)) (L.item_self x)) h)
      (λ e. e)

  pub different_snoc : (xs : List Item) (x : Item) → Different F xs → member F x xs ≡ false → Different F (xs ++ x ∷ [])
  unfolding member
  different_snoc [] x d m = (refl, tt)
  different_snoc (z ∷ zs) x d m = (
    member_append F z zs (x ∷ [])
        ∙ or_neither (member F z zs) (member F z (x ∷ [])) d.0
        (or_neither (same_item z x) false (item_differ_sym x z (or_false_left (same_item x z) (member F x zs) m)) refl),
    different_snoc zs x d.1 (or_false_right (same_item x z) (member F x zs) m),
  )

  pub different_added : (xs : List Item) (x : Item) → Different F xs → Different F (added F xs x)
  unfolding added
  different_added xs x d =
      cond_cases (Different F) (member F x xs) xs (xs ++ x ∷ []) (λ m. d) (λ m. different_snoc xs x d m)

  pub different_added_all : (xs ys : List Item) → Different F xs → Different F (added_all F xs ys)
  unfolding added_all
  different_added_all xs [] d = d
  different_added_all xs (y ∷ ys) d = different_added_all (added F xs y) ys (different_added xs y d)

  -- items that are different anyway are all added
  pub added_new : (xs : List Item) (x : Item) → member F x xs ≡ false → added F xs x ≡ xs ++ x ∷ []
  unfolding added
  added_new xs x m = rw m

  pub different_first : (xs : List Item) (y : Item) (ys : List Item) → Different F (xs ++ y ∷ ys) → member F y xs ≡ false
  unfolding member
  different_first [] y ys d = refl
  different_first (x ∷ xs) y ys d =
      or_neither (same_item y x) (member F y xs)
      (item_differ_sym x y
      (or_false_left (same_item x y) (member F x ys) (or_false_right (member F x xs) (member F x (y ∷ ys)) (sym (member_append F x xs (y ∷ ys)) ∙ d.0))))
      (different_first xs y ys d.1)

  pub added_all_new : (xs ys : List Item) → Different F (xs ++ ys) → added_all F xs ys ≡ xs ++ ys
  unfolding added_all
  added_all_new xs [] d = sym (append-nil xs)
  added_all_new xs (y ∷ ys) d =
      rw (added_new xs y (different_first xs y ys d))
      (added_all_new (xs ++ y ∷ []) ys (rw (append_assoc xs (y ∷ []) ys) d) ∙ append_assoc xs (y ∷ []) ys)
