-- The laws of numbers (document 02, R-9). In this order: what the rule of a number says; what a field does, apart from stamps, does not depend on them; so fields, refused
-- blocks and forgettings; what linkage reads, apart from numbers, is what it read before; where a shown set and its stamp are from, after
-- fields, after an operation, and after a reception.
use Prim.Native.Nat.{ℕ, zero, suc, ◌/◌, ◌<◌}
use native.Mathlib.Nat.{le_of_suc-le-suc, not-suc-le-zero}
use native.Mathlib.Omega.{arith}
use mathlib.Core.Path.{◌≡◌, refl, sym, ap, ◌∙◌}
use mathlib.Core.Logic.{inl, inr, ⊎_elim}
use mathlib.Core.Bool.{Bool, true, false}
use mathlib.Core.List.{List, [], ◌∷◌, map}
use mathlib.Core.Option
use mathlib.Core.Option.{Option, none, some}
use lib.ListN.{length, take, drop, get_elem?, length-map}
use lib.Dec.{leb, ltb}
use borrow.Author.Tests.{eqb-true}
use Rattle.rules.specs.declared.Note.{Note}
use Rattle.rules.specs.declared.Note.TheVariants.{ShownAndOpened}
use Rattle.rules.specs.Family.{Family, Listed, Act, start, continuation, no_list, drops, Said, Entry, extended, entry_with, started, continued, on_held, fresh, on_unheld, kept, effect, find, replace, insert, store, step, steps, closed, drop_open, forget}
use Rattle.rules.specs.Receptions.{held_keys, Shows, ShowsIn, Op, takes, refuses, ignores, forgets, after_op, said_in, ShowsRun}
use Rattle.rules.specs.Field.{Field}
use Rattle.rules.specs.Collecting.{linkage, Entries, Content, next_block, said, number_meets, showing, shown_sets}
use Rattle.rules.specs.Outcomes.{Verdict, taken, refused, no_block, verdict, answer_to, read_block, read_blocks, read_recording}
use Rattle.rules.specs.Numbers.{field_at, Later, LastShown, earlier, shown, bare, bare_said, plain_after, plain_blocks, plain_recording}
use Rattle.rules.proofs.Basics.{cases_bool, cases-option, true-false, none_some}
use Rattle.rules.proofs.FamilyLaws.{Lawful, Ascends, note_step, find_key, find_step, find_step_own, find_drop, find_forget}
use Rattle.rules.proofs.Runs.{run, ascends_op}
use Rattle.rules.proofs.HeldKeys.{shows_key}

-- ---- what the rule of a number says

-- where no set is shown, it is 0
pub unshown_number : (n : ℕ) → number_meets none n ≡ true → n ≡ 0
unfolding number_meets
unshown_number n h = eqb-true n 0 h

-- ---- apart from stamps

module _ (F : Family) where
  open F use {Key, same_key, key_before, State, Stamp, room, most}

  -- what comes of an entry, without its stamp
  abbrev bare_held : Entry F × Note → Entry F × Note
  bare_held r = (bare F r.0, r.1)

  abbrev bare_found : Option (Entry F) × Note → Option (Entry F) × Note
  bare_found r = (Option.map (bare F) r.0, r.1)

  bare_continued : (e : Entry F) (s : State) (l : Listed F) (d : Option (Listed F))
      → continued F (bare F e) s l d ≡ bare_held (continued F e s l d)
  unfolding continued entry_with bare
  bare_continued e s l none = refl
  bare_continued e s l (some d) = cases_bool (leb (length (extended F d l).items) most) (λ b. rw b) (λ b. rw b)

  bare_started : (e : Entry F) (s : State) (p : Stamp) (l : Listed F) (d : Option (Listed F))
      → started F (bare F e) s F.unstamped l d ≡ bare_held (started F e s p l d)
  unfolding started entry_with bare
  bare_started e s p l none = refl
  bare_started e s p l (some d) = refl

  bare_held_law : (e : Entry F) (s : State) (p : Stamp) (a : Act F) → on_held F (bare F e) s F.unstamped a ≡ bare_held (on_held F e s p a)
  unfolding on_held entry_with bare
  bare_held_law e s p (start l) = bare_started e s p l e.draft
  bare_held_law e s p (continuation l) = bare_continued e s l e.draft
  bare_held_law e s p no_list = refl
  bare_held_law e s p drops = refl

  bare_unheld : (r : Bool) (k : Key) (s : State) (a : Act F) → on_unheld F r k s a ≡ bare_found (on_unheld F r k s a)
  unfolding on_unheld fresh bare
  bare_unheld true k s (start l) = refl
  bare_unheld false k s (start l) = refl
  bare_unheld r k s (continuation l) = refl
  bare_unheld r k s no_list = refl
  bare_unheld r k s drops = refl

  bare_effect : (r : Bool) (f : Said F) (o : Option (Entry F)) → effect F r (bare_said F f) (Option.map (bare F) o) ≡ bare_found (effect F r f o)
  unfolding effect kept bare_said
  bare_effect r f none = bare_unheld r f.key f.state f.act
  bare_effect r f (some e) = ap (kept F) (bare_held_law e f.state f.stamp f.act)

  bare_find : (k : Key) (t : List (Entry F)) → find F k (map (bare F) t) ≡ Option.map (bare F) (find F k t)
  unfolding find bare
  bare_find k [] = refl
  bare_find k (e ∷ es) = cases_bool (same_key k e.key) (λ s. rw s) (λ s. rw s (bare_find k es))

  bare_replace : (e : Entry F) (t : List (Entry F)) → replace F (bare F e) (map (bare F) t) ≡ map (bare F) (replace F e t)
  unfolding replace bare
  bare_replace e [] = refl
  bare_replace e (x ∷ xs) = cases_bool (same_key e.key x.key) (λ s. rw s) (λ s. rw s (ap (◌∷◌ (bare F x)) (bare_replace e xs)))

  bare_insert : (e : Entry F) (t : List (Entry F)) → insert F (bare F e) (map (bare F) t) ≡ map (bare F) (insert F e t)
  unfolding insert bare
  bare_insert e [] = refl
  bare_insert e (x ∷ xs) = cases_bool (key_before e.key x.key) (λ s. rw s) (λ s. rw s (ap (◌∷◌ (bare F x)) (bare_insert e xs)))

  bare_store : (old new : Option (Entry F)) (t : List (Entry F))
      → store F (Option.map (bare F) old) (Option.map (bare F) new) (map (bare F) t) ≡ map (bare F) (store F old new t)
  unfolding store
  bare_store old none t = refl
  bare_store none (some e) t = bare_insert e t
  bare_store (some old) (some e) t = bare_replace e t

  -- a field
  pub bare_step : (t : List (Entry F)) (f : Said F)
      → step F (map (bare F) t) (bare_said F f) ≡ (map (bare F) (step F t f).0, (step F t f).1)
  unfolding step bare_said
  bare_step t f =
      let r = ltb (length t) room in
      let o = find F f.key t in
      (λ i.
      let e = effect F (ltb (length-map t (bare F) i) room) (bare_said F f) (bare_find f.key t i) in
      (store F (bare_find f.key t i) e.0 (map (bare F) t), e.1))
      ∙ ap (λ (x : Option (Entry F) × Note). (store F (Option.map (bare F) o) x.0 (map (bare F) t), x.1)) (bare_effect r f o)
      ∙ ap (λ (u : List (Entry F)). (u, (effect F r f o).1)) (bare_store o (effect F r f o).0 t)

  -- fields, and their notes
  pub bare_steps : (t : List (Entry F)) (fs : List (Said F))
      → steps F (map (bare F) t) (map (bare_said F) fs) ≡ (map (bare F) (steps F t fs).0, (steps F t fs).1)
  unfolding steps
  bare_steps t [] = refl
  bare_steps t (f ∷ fs) =
      ap (λ (r : List (Entry F) × Note).
      let s = steps F r.0 (map (bare_said F) fs) in
      (s.0, r.1 ∷ s.1)) (bare_step t f)
      ∙ ap (λ (s : List (Entry F) × List Note). (s.0, (step F t f).1 ∷ s.1)) (bare_steps (step F t f).0 fs)

  pub bare_drop : (t : List (Entry F)) → drop_open F (map (bare F) t) ≡ map (bare F) (drop_open F t)
  unfolding drop_open closed entry_with bare
  bare_drop [] = refl
  bare_drop (e ∷ es) = ap (◌∷◌ (closed F (bare F e))) (bare_drop es)

  pub bare_forget : (k : Key) (t : List (Entry F)) → forget F k (map (bare F) t) ≡ map (bare F) (forget F k t)
  unfolding forget bare
  bare_forget k [] = refl
  bare_forget k (e ∷ es) = cases_bool (same_key k e.key) (λ s. rw s) (λ s. rw s (ap (◌∷◌ (bare F e)) (bare_forget k es)))

-- ---- what linkage reads, apart from numbers

-- without their numbers entries show the same
pub bare_shown_law : (t : Entries) → shown_sets (map (bare linkage) t) ≡ shown_sets t
unfolding shown_sets showing bare
bare_shown_law [] = refl
bare_shown_law (e ∷ es) = cases-option e.shown (λ g. rw g (bare_shown_law es)) (λ l g. rw g (ap (◌∷◌ (record { key = e.key; on = e.state; set = l })) (bare_shown_law es)))

bare_said_law : (n : ℕ) (fs : List Field) → map (bare_said linkage) (map (said n) fs) ≡ map (said 0) fs
unfolding said bare_said
bare_said_law n [] = refl
bare_said_law n (f ∷ fs) = ap (◌∷◌ (said 0 f)) (bare_said_law n fs)

plain_answer : (t : Content) (v : Verdict) → map (bare linkage) (answer_to t v).left.sets ≡ plain_after (map (bare linkage) t.sets) v
unfolding answer_to plain_after
plain_answer t (taken fs) =
    let n = next_block t.blocks in
    sym (ap (λ (r : Entries × List Note). r.0) (bare_steps linkage t.sets (map (said n) fs)))
    ∙ ap (λ (gs : List (Said linkage)). (steps linkage (map (bare linkage) t.sets) gs).0) (bare_said_law n fs)
plain_answer t (refused o p) = sym (bare_drop linkage t.sets)
plain_answer t no_block = refl

plain_blocks_law : (n : ℕ) (t : Content) (bytes : List ℕ) → map (bare linkage) (read_blocks n t bytes).sets ≡ plain_blocks n (map (bare linkage) t.sets) bytes
unfolding read_blocks plain_blocks read_block
plain_blocks_law zero t bytes = refl
plain_blocks_law (suc n) t bytes =
    plain_blocks_law n (read_block t (take 32 bytes)).left (drop 32 bytes)
    ∙ ap (λ (u : Entries). plain_blocks n u (drop 32 bytes)) (plain_answer t (verdict (take 32 bytes)))

-- a recording leaves, apart from numbers, what it left before there were any
pub plain_recording_law : (t : Content) (bytes : List ℕ) → map (bare linkage) (read_recording t bytes).sets ≡ plain_recording (map (bare linkage) t.sets) bytes
unfolding read_recording plain_recording
plain_recording_law t bytes = plain_blocks_law (length bytes / 32) t bytes

-- ---- where a shown set and its stamp are from

module _ (F : Family) (L : Lawful F) where
  open F use {Key, same_key, State, Stamp, room, most}

  -- what a held key shows after a field: what it showed before, with the stamp it had; or, where the note says so, another with the field's
  pub data From (e : Entry F) (p : Stamp) (r : Entry F × Note) : Type 0 where
    as_before : r.0.shown ≡ e.shown → r.0.stamp ≡ e.stamp → (r.1 ≡ ShownAndOpened → ⊥) → From e p r
    by_field : r.0.stamp ≡ p → r.1 ≡ ShownAndOpened → From e p r

  from_started : (e : Entry F) (s : State) (p : Stamp) (l : Listed F) (d : Option (Listed F)) → From e p (started F e s p l d)
  unfolding started entry_with
  from_started e s p l none = as_before refl refl (λ h. let z : ◌≡◌ {A = ℕ} 0 1 = cc in omega arith)
  from_started e s p l (some d) = by_field refl refl

  from_continued : (e : Entry F) (s : State) (p : Stamp) (l : Listed F) (d : Option (Listed F)) → From e p (continued F e s l d)
  unfolding continued entry_with
  from_continued e s p l none = as_before refl refl (λ h. let z : ◌≡◌ {A = ℕ} 0 1 = cc in omega arith)
  from_continued e s p l (some d) =
      cases_bool (leb (length (extended F d l).items) most)
      (λ b. rw b (as_before refl refl (λ h. let z : ◌≡◌ {A = ℕ} 0 1 = cc in omega arith)))
      (λ b. rw b (as_before refl refl (λ h. let z : ◌≡◌ {A = ℕ} 0 1 = cc in omega arith)))

  from_held : (e : Entry F) (s : State) (p : Stamp) (a : Act F) → From e p (on_held F e s p a)
  unfolding on_held entry_with
  from_held e s p (start l) = from_started e s p l e.draft
  from_held e s p (continuation l) = from_continued e s p l e.draft
  from_held e s p no_list = as_before refl refl (λ h. let z : ◌≡◌ {A = ℕ} 0 1 = cc in omega arith)
  from_held e s p drops = as_before refl refl (λ h. let z : ◌≡◌ {A = ℕ} 0 1 = cc in omega arith)

  -- a new key shows nothing
  unheld_shown : (r : Bool) (k : Key) (s : State) (a : Act F) (x : Entry F) → (on_unheld F r k s a).0 ≡ some x → x.shown ≡ none
  unfolding on_unheld fresh
  unheld_shown true k s (start l) x h = let e : fresh F k s l ≡ x = cc in sym (ap (λ (y : Entry F). y.shown) e)
  unheld_shown false k s (start l) x h = none_some refl h
  unheld_shown r k s (continuation l) x h = none_some refl h
  unheld_shown r k s no_list x h = none_some refl h
  unheld_shown r k s drops x h = none_some refl h

  -- ---- one field

  abbrev NotBy : List (Entry F) → Said F → Key → Type 0
  NotBy t f k = (s : State) (m : Listed F) → Shows F t f k s m → ⊥

  -- what a key shows after a field is from before it, and it did not come to show a set of that key; or it came to show that
  pub data Last (t : List (Entry F)) (f : Said F) (k : Key) (l : Listed F) (p : Stamp) : Type 0 where
    was : (e : Entry F) → find F k t ≡ some e → e.shown ≡ some l → e.stamp ≡ p → NotBy t f k → Last t f k l p
    came : (s : State) → Shows F t f k s l → f.stamp ≡ p → Last t f k l p

  module _ (t : List (Entry F)) (f : Said F) (k : Key) (x : Entry F) (l : Listed F) (h : find F k (step F t f).0 ≡ some x) (g : x.shown ≡ some l) where
    of_other : same_key k f.key ≡ false → Last t f k l x.stamp
    of_other d = was x (sym (find_step F L k t f ∙ rw d) ∙ h) g refl (λ s m sh. true-false (rw (shows_key F L t f k s m sh) (L.same_self f.key)) d)

    module _ (own : k ≡ f.key) where
      found : (effect F (ltb (length t) room) f (find F f.key t)).0 ≡ some x
      found = sym (find_step_own F L t f) ∙ ap (λ (y : Key). find F y (step F t f).0) (sym own) ∙ h

      of_new : find F f.key t ≡ none → Last t f k l x.stamp
      unfolding effect
      of_new n =
          none_some (unheld_shown (ltb (length t) room) f.key f.state f.act x (sym (ap (λ (o : Option (Entry F)). (effect F (ltb (length t) room) f o).0) n) ∙ found)) g

      of_held : (e : Entry F) → find F f.key t ≡ some e → Last t f k l x.stamp
      unfolding effect kept
      of_held e n =
          let r = on_held F e f.state f.stamp f.act in
          let both : effect F (ltb (length t) room) f (find F f.key t) ≡ (some r.0, r.1) = ap (effect F (ltb (length t) room) f) n in
          let q : some r.0 ≡ some x = sym (ap (λ (y : Option (Entry F) × Note). y.0) both) ∙ found in
          let same : r.0 ≡ x = cc in
          let note : (step F t f).1 ≡ r.1 = note_step F t f ∙ ap (λ (y : Option (Entry F) × Note). y.1) both in
          from e n r same note (from_held e f.state f.stamp f.act)
        where
          from : (e : Entry F) → find F f.key t ≡ some e → (r : Entry F × Note) → r.0 ≡ x → (step F t f).1 ≡ r.1 → From e f.stamp r → Last t f k l x.stamp
          from e n r same note (as_before a b c) =
              was e (ap (λ (y : Key). find F y t) own ∙ n) (sym a ∙ ap (λ (y : Entry F). y.shown) same ∙ g) (sym b ∙ ap (λ (y : Entry F). y.stamp) same)
              (λ s m sh. c (sym note ∙ sh.noted))
          from e n r same note (by_field a b) =
              let stamp' : x.stamp ≡ f.stamp = sym (ap (λ (y : Entry F). y.stamp) same) ∙ a in
              let key' : x.key ≡ k = find_key F L k (step F t f).0 x h in
              let whole : ◌≡◌ {A = Entry F} x (record { key = k; state = x.state; shown = some l; draft = x.draft; stamp = f.stamp }) =
              λ i. record { key = key' i; state = x.state; shown = g i; draft = x.draft; stamp = stamp' i } in
              came x.state
              (record {
                noted = note ∙ b;
                draft = x.draft;
                found = ap (λ (y : Key). find F y (step F t f).0) (sym own) ∙ h ∙ ap some whole;
              }) (sym stamp')

    pub last_field : Last t f k l x.stamp
    last_field =
        cases_bool (same_key k f.key)
        (λ s. let own = L.same_is k f.key s in cases-option (find F f.key t) (of_new own) (of_held own))
        of_other

  -- ---- fields

  abbrev NotIn : List (Entry F) → List (Said F) → Key → Type 0
  NotIn t fs k = (j : ℕ) (s : State) (m : Listed F) → ShowsIn F t fs j k s m → ⊥

  abbrev NotAfter : List (Entry F) → List (Said F) → Key → ℕ → Type 0
  NotAfter t fs k j = (j' : ℕ) (s : State) (m : Listed F) → j < j' → ShowsIn F t fs j' k s m → ⊥

  -- the same after fields
  pub data LastIn (t : List (Entry F)) (fs : List (Said F)) (k : Key) (l : Listed F) (p : Stamp) : Type 0 where
    was : (e : Entry F) → find F k t ≡ some e → e.shown ≡ some l → e.stamp ≡ p → NotIn t fs k → LastIn t fs k l p
    came : (j : ℕ) (s : State) (f : Said F) → ShowsIn F t fs j k s l → get_elem? fs j ≡ some f → f.stamp ≡ p → NotAfter t fs k j → LastIn t fs k l p

  not_none : (t : List (Entry F)) (k : Key) → NotIn t [] k
  unfolding ShowsIn
  not_none t k j s m sh = sh

  not_first : (t : List (Entry F)) (f : Said F) (fs : List (Said F)) (k : Key) → NotBy t f k → NotIn (step F t f).0 fs k → NotIn t (f ∷ fs) k
  unfolding ShowsIn
  not_first t f fs k a b zero s m sh = a s m sh
  not_first t f fs k a b (suc j) s m sh = b j s m sh

  after_first : (t : List (Entry F)) (f : Said F) (fs : List (Said F)) (k : Key) → NotIn (step F t f).0 fs k → NotAfter t (f ∷ fs) k 0
  unfolding ShowsIn
  after_first t f fs k b zero s m h sh = not-suc-le-zero h
  after_first t f fs k b (suc j) s m h sh = b j s m sh

  after_next : (t : List (Entry F)) (f : Said F) (fs : List (Said F)) (k : Key) (j : ℕ) → NotAfter (step F t f).0 fs k j → NotAfter t (f ∷ fs) k (suc j)
  unfolding ShowsIn
  after_next t f fs k j b zero s m h sh = not-suc-le-zero h
  after_next t f fs k j b (suc i) s m h sh = b i s m (le_of_suc-le-suc h) sh

  module _ (t : List (Entry F)) (f : Said F) (fs : List (Said F)) (k : Key) (l : Listed F) where
    -- from before the others
    with_first : {q p : Stamp} → q ≡ p → NotIn (step F t f).0 fs k → Last t f k l q → LastIn t (f ∷ fs) k l p
    unfolding ShowsIn
    with_first z b (was e a g r c) = was e a g (r ∙ z) (not_first t f fs k c b)
    with_first z b (came s sh r) = came 0 s f sh refl (r ∙ z) (after_first t f fs k b)

    next_field : {p : Stamp} → LastIn (step F t f).0 fs k l p → LastIn t (f ∷ fs) k l p
    unfolding ShowsIn
    next_field (was e a g r b) = with_first r b (last_field t f k e l a g)
    next_field (came j s d sh at r b) = came (suc j) s d sh at r (after_next t f fs k j b)

  pub last_in : (t : List (Entry F)) (fs : List (Said F)) (k : Key) (x : Entry F) (l : Listed F) → find F k (steps F t fs).0 ≡ some x → x.shown ≡ some l
      → LastIn t fs k l x.stamp
  unfolding steps
  last_in t [] k x l h g = was x h g refl (not_none t k)
  last_in t (f ∷ fs) k x l h g = next_field t f fs k l (last_in (step F t f).0 fs k x l h g)

  -- ---- an operation

  dropped : (o : Option (Entry F)) (x : Entry F) → Option.map (closed F) o ≡ some x → (e : Entry F) × (o ≡ some e) × (e.shown ≡ x.shown) × (e.stamp ≡ x.stamp)
  unfolding closed entry_with
  dropped none x h = none_some refl h
  dropped (some e) x h =
      let q : entry_with F e e.state e.shown none ≡ x = cc in
      (e, refl, ap (λ (y : Entry F). y.shown) q, ap (λ (y : Entry F). y.stamp) q)

  pub last_op : (t : List (Entry F)) (o : Op F) (k : Key) (x : Entry F) (l : Listed F) → Ascends F (held_keys F t) → find F k (after_op F t o) ≡ some x → x.shown ≡ some l
      → LastIn t (said_in F o) k l x.stamp
  unfolding after_op said_in
  last_op t (takes fs) k x l a h g = last_in t fs k x l h g
  last_op t refuses k x l a h g =
      let d = dropped (find F k t) x (sym (find_drop F k t) ∙ h) in
      was d.0 d.1 (d.2 ∙ g) d.3 (not_none t k)
  last_op t ignores k x l a h g = was x h g refl (not_none t k)
  last_op t (forgets y) k x l a h g =
      let q = sym (find_forget F L k y t a) ∙ h in
      cases_bool (same_key k y) (λ s. none_some refl (rw s at q)) (λ s. was x (rw s at q) g refl (not_none t k))

  -- ---- a reception

  abbrev NotRun : List (Entry F) → List (Op F) → Key → Type 0
  NotRun t os k = (i j : ℕ) (s : State) (m : Listed F) → ShowsRun F t os i j k s m → ⊥

  abbrev NotLater : List (Entry F) → List (Op F) → Key → ℕ → ℕ → Type 0
  NotLater t os k i j = (i' j' : ℕ) (s : State) (m : Listed F) → Later F i j i' j' → ShowsRun F t os i' j' k s m → ⊥

  not_empty_law : (t : List (Entry F)) (k : Key) → NotRun t [] k
  unfolding ShowsRun
  not_empty_law t k i j s m sh = sh

  not_op : (t : List (Entry F)) (o : Op F) (os : List (Op F)) (k : Key) → NotIn t (said_in F o) k → NotRun (after_op F t o) os k → NotRun t (o ∷ os) k
  unfolding ShowsRun
  not_op t o os k a b zero j s m sh = a j s m sh
  not_op t o os k a b (suc i) j s m sh = b i j s m sh

  later_first : (t : List (Entry F)) (o : Op F) (os : List (Op F)) (k : Key) (j : ℕ) → NotAfter t (said_in F o) k j → NotRun (after_op F t o) os k → NotLater t (o ∷ os) k 0 j
  unfolding ShowsRun
  later_first t o os k j a b zero j' s m h sh = ⊎_elim (λ x. not-suc-le-zero x) (λ x. a j' s m x.1 sh) h
  later_first t o os k j a b (suc i) j' s m h sh = b i j' s m sh

  later_next : (t : List (Entry F)) (o : Op F) (os : List (Op F)) (k : Key) (i j : ℕ) → NotLater (after_op F t o) os k i j → NotLater t (o ∷ os) k (suc i) j
  unfolding ShowsRun
  later_next t o os k i j b zero j' s m h sh = ⊎_elim (λ x. not-suc-le-zero x) (λ x. omega (arith, x.0)) h
  later_next t o os k i j b (suc n) j' s m h sh = b n j' s m (⊎_elim (λ x. inl (le_of_suc-le-suc x)) (λ x. inr (omega (arith, x.0), x.1)) h) sh

  module _ (t : List (Entry F)) (o : Op F) (os : List (Op F)) (k : Key) (l : Listed F) (a : Ascends F (held_keys F t)) where
    with_op : {q p : Stamp} → q ≡ p → NotRun (after_op F t o) os k → LastIn t (said_in F o) k l q → LastShown F t (o ∷ os) k l p
    unfolding ShowsRun field_at
    with_op z b (was e c g r n) = earlier e c g (r ∙ z) (not_op t o os k n b)
    with_op z b (came j s f sh at r n) = shown 0 j s f sh at (r ∙ z) (later_first t o os k j n b)

    next_op : {p : Stamp} → LastShown F (after_op F t o) os k l p → LastShown F t (o ∷ os) k l p
    unfolding ShowsRun field_at
    next_op (earlier e c g r b) = with_op r b (last_op t o k e l a c g)
    next_op (shown i j s f sh at r b) = shown (suc i) j s f sh at r (later_next t o os k i j b)

  -- THE law: after any reception, a shown set has the stamp of the field at which it last came to be shown
  pub last_shown : (t : List (Entry F)) (os : List (Op F)) (k : Key) (x : Entry F) (l : Listed F) → Ascends F (held_keys F t)
      → find F k (run F t os) ≡ some x → x.shown ≡ some l → LastShown F t os k l x.stamp
  unfolding run
  last_shown t [] k x l a h g = earlier x h g refl (not_empty_law t k)
  last_shown t (o ∷ os) k x l a h g = next_op t o os k l a (last_shown (after_op F t o) os k x l (ascends_op F L t o a) h g)
