-- Fields of a held key, over a family. In order: what fields leave of a held key depends on nothing else in the table; a shown set stays;
-- the key of a set that comes to be shown, and that one is shown after the fields; two tables of which one leads the other
-- (Leads.antt) hold the same of a key from the field on at which the second came to show a set.
use Prim.Native.Nat.{ℕ, zero, suc}
use mathlib.Core.Path.{◌≡◌, refl, sym, ap, ◌∙◌}
use mathlib.Core.Bool.{cond}
use mathlib.Core.List.{List, [], ◌∷◌}
use mathlib.Core.Option.{Option, none, some}
use lib.ListN.{length, get_elem?}
use lib.Dec.{leb, ltb}
use Rattle.rules.specs.declared.Note.{Note}
use Rattle.rules.specs.declared.Note.TheVariants.{ShownAndOpened}
use Rattle.rules.specs.Family.{Family, Listed, Act, start, continuation, no_list, drops, Said, Entry, extended, entry_with, started, continued, on_held, kept, effect, find, step, steps}
use Rattle.rules.specs.Receptions.{Shows, ShowsIn}
use Rattle.rules.proofs.Basics.{cases_bool, cond_both, Every}
use Rattle.rules.proofs.FamilyLaws.{Lawful, note_step, find_key, found_key, find_step, find_step_own}
use Rattle.rules.proofs.Runs.{StartIn, Fits, fits_step}
use Rattle.rules.proofs.Leads.{Leads, leads_step, shows_start, start_shows}

-- what is found of a key, with a set that is shown
pub record Showing (F : Family) (o : Option (Entry F)) : Type 0 where
  pub held : Entry F
  pub set : Listed F
  pub found : o ≡ some held
  pub shown : held.shown ≡ some set

module _ (F : Family) (L : Lawful F) where
  open F use {Key, same_key, State, Stamp, room, most}

  -- what a field leaves of a held key depends on nothing else in the table
  pub find_step_held : (k : Key) (t : List (Entry F)) (f : Said F) (e : Entry F) → find F k t ≡ some e
      → find F k (step F t f).0 ≡ some (cond (same_key k f.key) (on_held F e f.state f.stamp f.act).0 e)
  unfolding effect kept
  find_step_held k t f e h =
      find_step F L k t f ∙ rw h (cases_bool (same_key k f.key) (λ s. rw s) (λ s. rw s))

  -- so where two tables hold the same of a key, they do after fields
  pub find_steps_held : (k : Key) (b w : List (Entry F)) (fs : List (Said F)) (e : Entry F) → find F k b ≡ some e → find F k w ≡ some e
      → find F k (steps F b fs).0 ≡ find F k (steps F w fs).0
  unfolding steps
  find_steps_held k b w [] e p q = p ∙ sym q
  find_steps_held k b w (f ∷ fs) e p q =
      find_steps_held k (step F b f).0 (step F w f).0 fs _ (find_step_held k b f e p) (find_step_held k w f e q)

  -- ---- a shown set stays: a field may exchange it for another, and never takes it away

  pub started_shown : (e : Entry F) (s : State) (p : Stamp) (l : Listed F) (d : Option (Listed F)) (m : Listed F) → e.shown ≡ some m
      → (n : Listed F) × ((started F e s p l d).0.shown ≡ some n)
  unfolding started entry_with
  started_shown e s p l none m h = (m, h)
  started_shown e s p l (some d) m h = (d, refl)

  pub continued_shown : (e : Entry F) (s : State) (l : Listed F) (d : Option (Listed F)) → (continued F e s l d).0.shown ≡ e.shown
  unfolding continued entry_with
  continued_shown e s l none = refl
  continued_shown e s l (some d) =
      cond_both (λ (r : Entry F × Note). r.0.shown ≡ e.shown) (leb (length (extended F d l).items) most) _ _ refl refl

  pub on_held_shown : (e : Entry F) (s : State) (p : Stamp) (a : Act F) (m : Listed F) → e.shown ≡ some m → (n : Listed F) × ((on_held F e s p a).0.shown ≡ some n)
  unfolding on_held entry_with
  on_held_shown e s p (start l) m h = started_shown e s p l e.draft m h
  on_held_shown e s p (continuation l) m h = (m, continued_shown e s l e.draft ∙ h)
  on_held_shown e s p no_list m h = (m, h)
  on_held_shown e s p drops m h = (m, h)

  pub showing_step : (k : Key) (t : List (Entry F)) (f : Said F) → Showing F (find F k t) → Showing F (find F k (step F t f).0)
  showing_step k t f x =
      let n = on_held_shown x.held f.state f.stamp f.act x.set x.shown in
      cases_bool (same_key k f.key)
      (λ s. record {
        held = (on_held F x.held f.state f.stamp f.act).0;
        set = n.0;
        found = find_step_held k t f x.held x.found ∙ rw s;
        shown = n.1;
      })
      (λ s. record { held = x.held; set = x.set; found = find_step_held k t f x.held x.found ∙ rw s; shown = x.shown })

  pub showing_steps : (k : Key) (t : List (Entry F)) (fs : List (Said F)) → Showing F (find F k t) → Showing F (find F k (steps F t fs).0)
  unfolding steps
  showing_steps k t [] x = x
  showing_steps k t (f ∷ fs) x = showing_steps k (step F t f).0 fs (showing_step k t f x)

  -- ---- a set that comes to be shown

  -- the key of a set that comes to be shown is its field's
  pub shows_key : (t : List (Entry F)) (f : Said F) (k : Key) (s : State) (l : Listed F) → Shows F t f k s l → k ≡ f.key
  shows_key t f k s l sh = find_key F L f.key (step F t f).0 _ sh.found

  pub shows_in_key : (t : List (Entry F)) (fs : List (Said F)) (j : ℕ) (k : Key) (s : State) (l : Listed F) (f : Said F) → ShowsIn F t fs j k s l
      → get_elem? fs j ≡ some f → k ≡ f.key
  unfolding ShowsIn
  shows_in_key t [] j k s l f sh e = absurd sh
  shows_in_key t (g ∷ fs) zero k s l f sh e =
      let q : g ≡ f = cc in
      shows_key t g k s l sh ∙ ap (λ (x : Said F). x.key) q
  shows_in_key t (g ∷ fs) (suc j) k s l f sh e = shows_in_key (step F t g).0 fs j k s l f sh e

  -- after all the fields one is shown under its key: this one, or one that followed
  pub shows_showing : (t : List (Entry F)) (fs : List (Said F)) (j : ℕ) (k : Key) (s : State) (l : Listed F) → ShowsIn F t fs j k s l
      → Showing F (find F k (steps F t fs).0)
  unfolding ShowsIn steps
  shows_showing t [] j k s l sh = absurd sh
  shows_showing t (f ∷ fs) zero k s l sh =
      showing_steps k (step F t f).0 fs
      (record {
        held = record { key = k; state = s; shown = some l; draft = sh.draft; stamp = f.stamp };
        set = l;
        found = ap (λ (x : Key). find F x (step F t f).0) (shows_key t f k s l sh) ∙ sh.found;
        shown = refl;
      })
  shows_showing t (f ∷ fs) (suc j) k s l sh = shows_showing (step F t f).0 fs j k s l sh

  -- ---- one table leads another

  -- right after a field at which the second came to show a set, both hold the same of its key: the list that was open in both is shown,
  -- and the field's list opened
  pub leads_found : (b w : List (Entry F)) (f : Said F) → Leads F b w → (step F w f).1 ≡ ShownAndOpened
      → find F f.key (step F b f).0 ≡ find F f.key (step F w f).0
  leads_found b w f h n =
      let rb = ltb (length b) room in
      let rw' = ltb (length w) room in
      let p = shows_start F rw' f (find F f.key w) (sym (note_step F w f) ∙ n) in
      let ew = start_shows F rw' f (find F f.key w) p.0 p.1 p.2 p.3 (found_key F L f.key w) in
      let eb = start_shows F rb f (find F f.key b) p.0 p.1 p.2 (h f.key p.1 p.3) (found_key F L f.key b) in
      find_step_own F L b f ∙ ap (λ (r : Option (Entry F) × Note). r.0) (eb ∙ sym ew) ∙ sym (find_step_own F L w f)

  -- and also after the fields that follow
  pub leads_found_in : (us : List Key) (b w : List (Entry F)) (fs : List (Said F)) (j : ℕ) (k : Key) (s : State) (l : Listed F) → Fits F us b
      → Every (λ f. StartIn F us f.key f.act) fs → Leads F b w → ShowsIn F w fs j k s l
      → find F k (steps F b fs).0 ≡ find F k (steps F w fs).0
  unfolding ShowsIn steps
  leads_found_in us b w [] j k s l fits i h sh = absurd sh
  leads_found_in us b w (f ∷ fs) zero k s l fits i h sh =
      let e = ap (λ (x : Key). find F x (step F w f).0) (shows_key w f k s l sh) ∙ sh.found in
      let d = ap (λ (x : Key). find F x (step F b f).0) (shows_key w f k s l sh) ∙ leads_found b w f h sh.noted ∙ sh.found in
      find_steps_held k (step F b f).0 (step F w f).0 fs _ d e
  leads_found_in us b w (f ∷ fs) (suc j) k s l fits i h sh =
      leads_found_in us (step F b f).0 (step F w f).0 fs j k s l (fits_step F L us b f fits i.0) i.1
      (leads_step F L us b w f fits i.0 h) sh
