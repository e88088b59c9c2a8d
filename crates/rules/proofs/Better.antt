-- Better reception never contradicts worse, over any lawful family: each set that the worse reception comes to show at some field,
-- the better one comes to show at that field, and right after its block both hold the same of that set's key. In this order: what comes to be
-- shown is one set; the same operation keeps the lead; the promise; what is then held.
use Prim.Native.Nat.{ℕ, zero, suc, ◌≤◌}
use mathlib.Core.Path.{◌≡◌}
use mathlib.Core.Bool.{true}
use mathlib.Core.List.{List, [], ◌∷◌, ◌++◌}
use lib.ListN.{take}
use Rattle.rules.specs.Family.{Family, Listed, Entry, find, drop_open}
use Rattle.rules.specs.Receptions.{held_keys, started_keys, among, ShowsIn, Op, takes, refuses, ignores, forgets, after_op, said_in, WorseRun, ends, keeps, loses, ShowsRun, started_run, keys_run}
use Rattle.rules.proofs.Basics.{Every, every_left, every_right}
use Rattle.rules.proofs.FamilyLaws.{Lawful, Ascends}
use Rattle.rules.proofs.Runs.{StartIn, InFields, Fits, starts_in, starts_in_op, ascends_op, fits_op, fits_all, starts_all, run}
use Rattle.rules.proofs.HeldKeys.{Showing, shows_showing, leads_found_in}
use Rattle.rules.proofs.Leads.{Leads, leads_self, leads_steps, leads_dropped, leads_forget, shows_single, leads_shows_in}

module _ (F : Family) (L : Lawful F) where
  open F use {Key, State, room}

  -- at one field one set
  pub run_single : (t : List (Entry F)) (os : List (Op F)) (i j : ℕ) (k k' : Key) (s s' : State) (l l' : Listed F)
      → ShowsRun F t os i j k s l → ShowsRun F t os i j k' s' l' → (k ≡ k') × (s ≡ s') × (l ≡ l')
  unfolding ShowsRun
  run_single t [] i j k k' s s' l l' a b = absurd a
  run_single t (o ∷ os) (suc i) j k k' s s' l l' a b = run_single (after_op F t o) os i j k k' s s' l l' a b
  run_single t (o ∷ os) zero j k k' s s' l l' a b = shows_single F L t (said_in F o) j k k' s s' l l' a b

  -- the same operation keeps the lead
  pub leads_op : (us : List Key) (b w : List (Entry F)) (o : Op F) → Fits F us b → Ascends F (held_keys F w)
      → InFields F (λ f. StartIn F us f.key f.act) o → Leads F b w → Leads F (after_op F b o) (after_op F w o)
  unfolding after_op
  leads_op us b w (takes fs) fits a i h = leads_steps F L us b w fs fits i h
  leads_op us b w refuses fits a i h = leads_dropped F L (drop_open F b) w
  leads_op us b w ignores fits a i h = h
  leads_op us b w (forgets k) fits a i h = leads_forget F L k b w fits.ascend a h

  -- for a better reception whose keys are among these, and two tables of which the better one's leads
  pub leads_run : (us : List Key) {better worse : List (Op F)} → WorseRun F better worse → (b w : List (Entry F)) → Fits F us b
      → Ascends F (held_keys F w) → Leads F b w → Every (λ k. among F k us ≡ true) (started_run F better)
      → (i j : ℕ) (k : Key) (s : State) (l : Listed F) → ShowsRun F w worse i j k s l → ShowsRun F b better i j k s l
  unfolding ShowsRun started_run said_in ShowsIn
  leads_run us ends b w fits a h st i j k s l sh = absurd sh
  leads_run us (keeps {bs} {ws} o r) b w fits a h st zero j k s l sh =
      let now = every_left (λ k. among F k us ≡ true) (started_keys F (said_in F o)) (started_run F bs) st in
      leads_shows_in F L us b w (said_in F o) j k s l fits (starts_in F us (said_in F o) now) h sh
  leads_run us (keeps {bs} {ws} o r) b w fits a h st (suc i) j k s l sh =
      let now = starts_in_op F us o (every_left (λ k. among F k us ≡ true) (started_keys F (said_in F o)) (started_run F bs) st) in
      let later = every_right (λ k. among F k us ≡ true) (started_keys F (said_in F o)) (started_run F bs) st in
      leads_run us r (after_op F b o) (after_op F w o) (fits_op F L us b o fits now) (ascends_op F L w o a) (leads_op us b w o fits a now h)
      later i j k s l sh
  leads_run us (loses {bs} {ws} fs r) b w fits a h st zero j k s l sh = absurd sh
  leads_run us (loses {bs} {ws} fs r) b w fits a h st (suc i) j k s l sh =
      let now = starts_in_op F us (takes fs) (every_left (λ k. among F k us ≡ true) (started_keys F fs) (started_run F bs) st) in
      let later = every_right (λ k. among F k us ≡ true) (started_keys F fs) (started_run F bs) st in
      leads_run us r (after_op F b (takes fs)) (after_op F w refuses) (fits_op F L us b (takes fs) fits now) (ascends_op F L w refuses a)
      (unfold after_op in leads_dropped F L (after_op F b (takes fs)) w) later i j k s l sh

  -- THE promise: from one table whose keys ascend, where the distinct keys that are held at the beginning or started in the better
  -- reception are no more than the table has room for
  pub better_run : (t : List (Entry F)) (better worse : List (Op F)) → Ascends F (held_keys F t) → WorseRun F better worse
      → keys_run F t better ≤ room → (i j : ℕ) (k : Key) (s : State) (l : Listed F)
      → ShowsRun F t worse i j k s l → ShowsRun F t better i j k s l
  better_run t better worse a r n =
      leads_run (held_keys F t ++ started_run F better) r t t (fits_all F L t better a n) a (leads_self F L t) (starts_all F L t better)

  -- ---- what is then held

  -- after an operation at a field of which the second came to show a set, both hold the same of that set's key
  pub found_op : (us : List Key) (b w : List (Entry F)) (o : Op F) (j : ℕ) (k : Key) (s : State) (l : Listed F) → Fits F us b
      → Every (λ f. StartIn F us f.key f.act) (said_in F o) → Leads F b w → ShowsIn F w (said_in F o) j k s l
      → find F k (after_op F b o) ≡ find F k (after_op F w o)
  unfolding after_op said_in ShowsIn
  found_op us b w (takes fs) j k s l fits i h sh = leads_found_in F L us b w fs j k s l fits i h sh
  found_op us b w refuses j k s l fits i h sh = absurd sh
  found_op us b w ignores j k s l fits i h sh = absurd sh
  found_op us b w (forgets x) j k s l fits i h sh = absurd sh

  pub found_run : (us : List Key) {better worse : List (Op F)} → WorseRun F better worse → (b w : List (Entry F)) → Fits F us b
      → Ascends F (held_keys F w) → Leads F b w → Every (λ k. among F k us ≡ true) (started_run F better)
      → (i j : ℕ) (k : Key) (s : State) (l : Listed F) → ShowsRun F w worse i j k s l
      → find F k (run F b (take (suc i) better)) ≡ find F k (run F w (take (suc i) worse))
  unfolding ShowsRun started_run said_in ShowsIn run
  found_run us ends b w fits a h st i j k s l sh = absurd sh
  found_run us (keeps {bs} {ws} o r) b w fits a h st zero j k s l sh =
      let now = every_left (λ k. among F k us ≡ true) (started_keys F (said_in F o)) (started_run F bs) st in
      found_op us b w o j k s l fits (starts_in F us (said_in F o) now) h sh
  found_run us (keeps {bs} {ws} o r) b w fits a h st (suc i) j k s l sh =
      let now = starts_in_op F us o (every_left (λ k. among F k us ≡ true) (started_keys F (said_in F o)) (started_run F bs) st) in
      let later = every_right (λ k. among F k us ≡ true) (started_keys F (said_in F o)) (started_run F bs) st in
      found_run us r (after_op F b o) (after_op F w o) (fits_op F L us b o fits now) (ascends_op F L w o a) (leads_op us b w o fits a now h)
      later i j k s l sh
  found_run us (loses {bs} {ws} fs r) b w fits a h st zero j k s l sh = absurd sh
  found_run us (loses {bs} {ws} fs r) b w fits a h st (suc i) j k s l sh =
      let now = starts_in_op F us (takes fs) (every_left (λ k. among F k us ≡ true) (started_keys F fs) (started_run F bs) st) in
      let later = every_right (λ k. among F k us ≡ true) (started_keys F fs) (started_run F bs) st in
      found_run us r (after_op F b (takes fs)) (after_op F w refuses) (fits_op F L us b (takes fs) fits now) (ascends_op F L w refuses a)
      (unfold after_op in leads_dropped F L (after_op F b (takes fs)) w) later i j k s l sh

  -- both receptions, cut after an operation at a field of which the worse one came to show a set, then hold the same of that set's key
  pub better_found : (t : List (Entry F)) (better worse : List (Op F)) → Ascends F (held_keys F t) → WorseRun F better worse
      → keys_run F t better ≤ room → (i j : ℕ) (k : Key) (s : State) (l : Listed F) → ShowsRun F t worse i j k s l
      → find F k (run F t (take (suc i) better)) ≡ find F k (run F t (take (suc i) worse))
  better_found t better worse a r n =
      found_run (held_keys F t ++ started_run F better) r t t (fits_all F L t better a n) a (leads_self F L t) (starts_all F L t better)

  -- and a set is shown under it: this one, or one that followed in the same block
  pub showing_op : (t : List (Entry F)) (o : Op F) (j : ℕ) (k : Key) (s : State) (l : Listed F) → ShowsIn F t (said_in F o) j k s l
      → Showing F (find F k (after_op F t o))
  unfolding after_op said_in ShowsIn
  showing_op t (takes fs) j k s l sh = shows_showing F L t fs j k s l sh
  showing_op t refuses j k s l sh = absurd sh
  showing_op t ignores j k s l sh = absurd sh
  showing_op t (forgets x) j k s l sh = absurd sh

  pub showing_run : (t : List (Entry F)) (os : List (Op F)) (i j : ℕ) (k : Key) (s : State) (l : Listed F) → ShowsRun F t os i j k s l
      → Showing F (find F k (run F t (take (suc i) os)))
  unfolding ShowsRun run
  showing_run t [] i j k s l sh = absurd sh
  showing_run t (o ∷ os) zero j k s l sh = showing_op t o j k s l sh
  showing_run t (o ∷ os) (suc i) j k s l sh = showing_run (after_op F t o) os i j k s l sh
