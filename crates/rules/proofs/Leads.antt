-- Two tables of a family of which one leads the other: every list that is open in the second is open in the first, with the same
-- content. In this order: what a field makes of an open list; a field, fields, refused blocks and forgettings keep the lead, as
-- long as the first table has room; what comes to be shown is one set, at a field whose note says so;
-- what the second comes to show, the first comes to show at the same field.
use Prim.Native.Nat.{ℕ, zero, suc}
use native.Mathlib.Omega.{arith}
use mathlib.Core.Path.{◌≡◌, refl, sym, ◌∙◌, ap}
use mathlib.Core.Bool.{Bool, true, false, cond}
use mathlib.Core.List.{List, [], ◌∷◌}
use mathlib.Core.Option.{Option, none, some, map}
use lib.ListN.{length, get_elem?}
use lib.Dec.{leb, ltb}
use Rattle.rules.specs.declared.Note.{Note}
use Rattle.rules.specs.declared.Note.TheVariants.{ShownAndOpened}
use Rattle.rules.specs.Family.{Family, Listed, Act, start, continuation, no_list, drops, Said, Entry, opening, extended, entry_with, started, continued, on_held, fresh, on_unheld, kept, effect, find, step, steps, closed, drop_open, forget}
use Rattle.rules.specs.Receptions.{held_keys, Shows, ShowsIn}
use Rattle.rules.proofs.Basics.{cases_bool, none_some, cond_both, Every, Within}
use Rattle.rules.proofs.FamilyLaws.{Lawful, Ascends, unheld_full, note_step, found_key, find_step_own, find_step_other, find_drop, find_forget}
use Rattle.rules.proofs.Runs.{StartIn, Fits, fits_step, effect_fits}

-- ---- open lists

module _ (F : Family) where
  open F use {Key, State, Stamp, most}

  -- the open list of what is held of a key
  unfoldable pub open_list : Option (Entry F) → Option (Listed F)
  open_list none = none
  open_list (some e) = e.draft

  -- an open list after a field with room
  unfoldable pub grown : Act F → Option (Listed F) → Option (Listed F)
  grown (start l) o = some (opening F l)
  grown (continuation m) none = none
  grown (continuation m) (some d) = cond (leb (length (extended F d m).items) most) (some (extended F d m)) none
  grown no_list o = o
  grown drops o = none

  pub open_started : (e : Entry F) (s : State) (p : Stamp) (l : Listed F) (d : Option (Listed F)) → (started F e s p l d).0.draft ≡ some (opening F l)
  unfolding started entry_with
  open_started e s p l none = refl
  open_started e s p l (some d) = refl

  pub open_continued : (e : Entry F) (s : State) (m : Listed F) (d : Option (Listed F)) → (continued F e s m d).0.draft ≡ grown (continuation m) d
  unfolding continued entry_with grown
  open_continued e s m none = refl
  open_continued e s m (some d) =
      cases_bool (leb (length (extended F d m).items) most) (λ b. rw b) (λ b. rw b)

  pub open_held : (e : Entry F) (s : State) (p : Stamp) (a : Act F) → (on_held F e s p a).0.draft ≡ grown a e.draft
  unfolding on_held entry_with
  open_held e s p (start l) = open_started e s p l e.draft ∙ unfold grown in refl
  open_held e s p (continuation m) = open_continued e s m e.draft
  open_held e s p no_list = unfold grown in refl
  open_held e s p drops = unfold grown in refl

  pub open_unheld : (k : Key) (s : State) (a : Act F) → open_list (on_unheld F true k s a).0 ≡ grown a none
  unfolding on_unheld fresh open_list grown
  open_unheld k s (start l) = refl
  open_unheld k s (continuation m) = refl
  open_unheld k s no_list = refl
  open_unheld k s drops = refl

  -- with room, a field makes of an open list what it makes of it
  pub open_effect : (f : Said F) (o : Option (Entry F)) → open_list (effect F true f o).0 ≡ grown f.act (open_list o)
  unfolding effect kept open_list
  open_effect f none = open_unheld f.key f.state f.act
  open_effect f (some e) = open_held e f.state f.stamp f.act

  -- without room, no more
  pub open_effect_some : (r : Bool) (f : Said F) (o : Option (Entry F)) (d : Listed F) → open_list (effect F r f o).0 ≡ some d
      → grown f.act (open_list o) ≡ some d
  unfolding effect kept open_list
  open_effect_some true f o d h = sym (open_effect f o) ∙ h
  open_effect_some false f none d h = none_some (ap open_list (unheld_full F f.key f.state f.act)) h
  open_effect_some false f (some e) d h = sym (open_held e f.state f.stamp f.act) ∙ h

  -- what is open in one is open in the other
  abbrev pub Same : Option (Listed F) → Option (Listed F) → Type 0
  Same w b = (d : Listed F) → w ≡ some d → b ≡ some d

  pub grown_same : (a : Act F) (w b : Option (Listed F)) → Same w b → Same (grown a w) (grown a b)
  unfolding grown
  grown_same (start l) w b h d e = e
  grown_same (continuation m) none b h d e = none_some refl e
  grown_same (continuation m) (some c) b h d e = rw (h c refl) e
  grown_same no_list w b h d e = h d e
  grown_same drops w b h d e = e

  -- ---- a field that comes to show a set

  -- is a start of a key with an open list
  pub shows_started : (e : Entry F) (s : State) (p : Stamp) (l : Listed F) (d : Option (Listed F)) → (started F e s p l d).1 ≡ ShownAndOpened
      → (c : Listed F) × (d ≡ some c)
  unfolding started
  shows_started e s p l none h = let z : ◌≡◌ {A = ℕ} 0 1 = cc in absurd (omega arith)
  shows_started e s p l (some d) h = (d, refl)

  pub shows_continued : (e : Entry F) (s : State) (m : Listed F) (d : Option (Listed F)) → (continued F e s m d).1 ≡ ShownAndOpened → ⊥
  unfolding continued
  shows_continued e s m none = λ h. let z : ◌≡◌ {A = ℕ} 0 1 = cc in omega arith
  shows_continued e s m (some d) =
      cond_both (λ (r : Entry F × Note). r.1 ≡ ShownAndOpened → ⊥) (leb (length (extended F d m).items) most) _ _
      (λ h. let z : ◌≡◌ {A = ℕ} 0 1 = cc in omega arith) (λ h. let z : ◌≡◌ {A = ℕ} 0 1 = cc in omega arith)

  pub shows_held : (e : Entry F) (s : State) (p : Stamp) (a : Act F) → (on_held F e s p a).1 ≡ ShownAndOpened
      → (l : Listed F) × (c : Listed F) × (a ≡ start l) × (e.draft ≡ some c)
  unfolding on_held
  shows_held e s p (start l) h = let c = shows_started e s p l e.draft h in (l, c.0, refl, c.1)
  shows_held e s p (continuation m) h = absurd (shows_continued e s m e.draft h)
  shows_held e s p no_list h = let z : ◌≡◌ {A = ℕ} 0 1 = cc in absurd (omega arith)
  shows_held e s p drops h = let z : ◌≡◌ {A = ℕ} 0 1 = cc in absurd (omega arith)

  pub shows_unheld : (r : Bool) (k : Key) (s : State) (a : Act F) → (on_unheld F r k s a).1 ≡ ShownAndOpened → ⊥
  unfolding on_unheld
  shows_unheld true k s (start l) h = let z : ◌≡◌ {A = ℕ} 0 1 = cc in omega arith
  shows_unheld false k s (start l) h = let z : ◌≡◌ {A = ℕ} 0 1 = cc in omega arith
  shows_unheld r k s (continuation m) h = let z : ◌≡◌ {A = ℕ} 0 1 = cc in omega arith
  shows_unheld r k s no_list h = let z : ◌≡◌ {A = ℕ} 0 1 = cc in omega arith
  shows_unheld r k s drops h = let z : ◌≡◌ {A = ℕ} 0 1 = cc in omega arith

  pub shows_start : (r : Bool) (f : Said F) (o : Option (Entry F)) → (effect F r f o).1 ≡ ShownAndOpened
      → (l : Listed F) × (c : Listed F) × (f.act ≡ start l) × (open_list o ≡ some c)
  unfolding effect kept open_list
  shows_start r f none h = absurd (shows_unheld r f.key f.state f.act h)
  shows_start r f (some e) h = shows_held e f.state f.stamp f.act h

  -- and such a start shows that list, with its own key, state and stamp
  pub start_shows : (r : Bool) (f : Said F) (o : Option (Entry F)) (l c : Listed F) → f.act ≡ start l → open_list o ≡ some c
      → Within (λ e. e.key ≡ f.key) o
      → effect F r f o ≡ (some (record { key = f.key; state = f.state; shown = some c; draft = some (opening F l); stamp = f.stamp }), ShownAndOpened)
  unfolding effect kept open_list on_held started entry_with
  start_shows r f none l c a d w = none_some refl d
  start_shows r f (some e) l c a d w = rw a (rw d (rw w))

-- ---- one table leads another

-- every list that is open in the second is open in the first
abbrev pub Leads : (F : Family) → List (Entry F) → List (Entry F) → Type 0
Leads F b w = (k : F.Key) → Same F (open_list F (find F k w)) (open_list F (find F k b))

module _ (F : Family) (L : Lawful F) where
  open F use {Key, same_key, State, room}

  pub leads_self : (t : List (Entry F)) → Leads F t t
  leads_self t k d h = h

  -- a field, for which the first has room: at its own key, at any
  pub leads_own : (us : List Key) (b w : List (Entry F)) (f : Said F) → Fits F us b → StartIn F us f.key f.act → Leads F b w
      → Same F (open_list F (find F f.key (step F w f).0)) (open_list F (find F f.key (step F b f).0))
  leads_own us b w f fits i h d e =
      let own = find_step_own F L w f in
      let grows = open_effect_some F (ltb (length w) room) f (find F f.key w) d (sym (ap (open_list F) own) ∙ e) in
      ap (open_list F) (find_step_own F L b f ∙ ap (λ (r : Option (Entry F) × Note). r.0) (effect_fits F L us b f fits i))
      ∙ open_effect F f (find F f.key b)
      ∙ grown_same F f.act (open_list F (find F f.key w)) (open_list F (find F f.key b)) (h f.key) d grows

  pub leads_step : (us : List Key) (b w : List (Entry F)) (f : Said F) → Fits F us b → StartIn F us f.key f.act → Leads F b w
      → Leads F (step F b f).0 (step F w f).0
  leads_step us b w f fits i h k =
      cases_bool (same_key k f.key)
      (λ s. rw (L.same_is k f.key s) (leads_own us b w f fits i h))
      (λ s d e. ap (open_list F) (find_step_other F L k b f s) ∙ h k d (sym (ap (open_list F) (find_step_other F L k w f s)) ∙ e))

  pub leads_steps : (us : List Key) (b w : List (Entry F)) (fs : List (Said F)) → Fits F us b → Every (λ f. StartIn F us f.key f.act) fs
      → Leads F b w → Leads F (steps F b fs).0 (steps F w fs).0
  unfolding steps
  leads_steps us b w [] fits i h = h
  leads_steps us b w (f ∷ fs) fits i h =
      leads_steps us (step F b f).0 (step F w f).0 fs (fits_step F L us b f fits i.0) i.1 (leads_step us b w f fits i.0 h)

  -- any table leads one without open lists
  pub none_open : (o : Option (Entry F)) → open_list F (map (closed F) o) ≡ none
  unfolding open_list closed entry_with
  none_open none = refl
  none_open (some e) = refl

  pub leads_dropped : (b w : List (Entry F)) → Leads F b (drop_open F w)
  leads_dropped b w k d e = none_some (ap (open_list F) (find_drop F k w) ∙ none_open (find F k w)) e

  -- forgetting
  pub leads_forget : (l : Key) (b w : List (Entry F)) → Ascends F (held_keys F b) → Ascends F (held_keys F w) → Leads F b w
      → Leads F (forget F l b) (forget F l w)
  unfolding open_list
  leads_forget l b w p q h k =
      rw (find_forget F L k l w q) (rw (find_forget F L k l b p) (pick k (same_key k l)))
    where
      pick : (k : Key) (s : Bool) → Same F (open_list F (cond s none (find F k w))) (open_list F (cond s none (find F k b)))
      pick k true d e = e
      pick k false d e = h k d e

  -- ---- what comes to be shown is one set, where the note says so

  pub shows_noted : (t : List (Entry F)) (fs : List (Said F)) (j : ℕ) (k : Key) (s : State) (l : Listed F) → ShowsIn F t fs j k s l
      → get_elem? (steps F t fs).1 j ≡ some ShownAndOpened
  unfolding ShowsIn steps
  shows_noted t [] j k s l sh = absurd sh
  shows_noted t (f ∷ fs) zero k s l sh = ap some sh.noted
  shows_noted t (f ∷ fs) (suc j) k s l sh = shows_noted (step F t f).0 fs j k s l sh

  pub noted_shows : (t : List (Entry F)) (fs : List (Said F)) (j : ℕ) → get_elem? (steps F t fs).1 j ≡ some ShownAndOpened
      → (k : Key) × (s : State) × (l : Listed F) × ShowsIn F t fs j k s l
  unfolding ShowsIn steps
  noted_shows t [] j h = none_some refl h
  noted_shows t (f ∷ fs) (suc j) h = noted_shows (step F t f).0 fs j h
  noted_shows t (f ∷ fs) zero h =
      let n : (step F t f).1 ≡ ShownAndOpened = cc in
      let r = ltb (length t) room in
      let p = shows_start F r f (find F f.key t) (sym (note_step F t f) ∙ n) in
      let e = start_shows F r f (find F f.key t) p.0 p.1 p.2 p.3 (found_key F L f.key t) in (
        f.key,
        f.state,
        p.1,
        record { noted = n; draft = some (opening F p.0); found = find_step_own F L t f ∙ ap (λ (r : Option (Entry F) × Note). r.0) e },
      )

  -- equal entries show the same
  pub shows_single : (t : List (Entry F)) (fs : List (Said F)) (j : ℕ) (k k' : Key) (s s' : State) (l l' : Listed F)
      → ShowsIn F t fs j k s l → ShowsIn F t fs j k' s' l' → (k ≡ k') × (s ≡ s') × (l ≡ l')
  unfolding ShowsIn
  shows_single t [] j k k' s s' l l' a b = absurd a
  shows_single t (f ∷ fs) (suc j) k k' s s' l l' a b = shows_single (step F t f).0 fs j k k' s s' l l' a b
  shows_single t (f ∷ fs) zero k k' s s' l l' a b =
      let p = sym a.found ∙ b.found in
      let q : ◌≡◌ {A = Entry F} (record { key = k; state = s; shown = some l; draft = a.draft; stamp = f.stamp }) (record { key = k'; state = s'; shown = some l'; draft = b.draft; stamp = f.stamp }) = cc in
      let m : ◌≡◌ {A = Option (Listed F)} (some l) (some l') = ap (λ (e : Entry F). e.shown) q in
      let n : l ≡ l' = cc in
      (ap (λ (e : Entry F). e.key) q, ap (λ (e : Entry F). e.state) q, n)

  -- ---- what the second comes to show, the first does

  pub leads_shows : (b w : List (Entry F)) (f : Said F) (k : Key) (s : State) (l : Listed F) → Leads F b w
      → Shows F w f k s l → Shows F b f k s l
  leads_shows b w f k s l h sh =
      let rb = ltb (length b) room in
      let rw' = ltb (length w) room in
      let p = shows_start F rw' f (find F f.key w) (sym (note_step F w f) ∙ sh.noted) in
      let ew = start_shows F rw' f (find F f.key w) p.0 p.1 p.2 p.3 (found_key F L f.key w) in
      let eb = start_shows F rb f (find F f.key b) p.0 p.1 p.2 (h f.key p.1 p.3) (found_key F L f.key b) in
      record {
        noted = note_step F b f ∙ ap (λ (r : Option (Entry F) × Note). r.1) eb;
        draft = sh.draft;
        found =
            find_step_own F L b f ∙ ap (λ (r : Option (Entry F) × Note). r.0) eb
            ∙ sym (find_step_own F L w f ∙ ap (λ (r : Option (Entry F) × Note). r.0) ew) ∙ sh.found;
      }

  pub leads_shows_in : (us : List Key) (b w : List (Entry F)) (fs : List (Said F)) (j : ℕ) (k : Key) (s : State) (l : Listed F) → Fits F us b
      → Every (λ f. StartIn F us f.key f.act) fs → Leads F b w → ShowsIn F w fs j k s l → ShowsIn F b fs j k s l
  unfolding ShowsIn
  leads_shows_in us b w [] j k s l fits i h sh = sh
  leads_shows_in us b w (f ∷ fs) zero k s l fits i h sh = leads_shows b w f k s l h sh
  leads_shows_in us b w (f ∷ fs) (suc j) k s l fits i h sh =
      leads_shows_in us (step F b f).0 (step F w f).0 fs j k s l (fits_step F L us b f fits i.0) i.1 (leads_step us b w f fits i.0 h) sh
