-- Runs over a family: blocks that are taken or refused, what is ignored, and keys that are forgotten, one after the other.
-- In this order: a run of operations; the laws of FamilyLaws for runs; a table is never full where the distinct
-- keys held or started are at most its room; there, what is held of one key is worked out from its own fields alone.
-- What nothing uses yet of these laws waits for R-10 and R-11 (document 02).
use Prim.Native.Nat.{suc, ◌≤◌}
use native.Mathlib.Omega.{arith}
use mathlib.Core.Path.{◌≡◌, refl, ◌∙◌, ap}
use mathlib.Core.Bool.{Bool, true, false, cond, ◌||◌}
use mathlib.Core.List.{List, [], ◌∷◌, ◌++◌}
use mathlib.Core.Option.{Option, none, some, map}
use lib.ListN.{length}
use lib.Dec.{ltb}
use borrow.Author.Tests.{lt-ltb}
use Rattle.rules.specs.declared.Note.{Note}
use Rattle.rules.specs.Family.{Family, Listed, Act, start, continuation, no_list, drops, Said, Entry, fresh, on_unheld, kept, entry_with, effect, find, insert, step, steps, closed, drop_open, forget}
use Rattle.rules.specs.Receptions.{held_keys, if_start, started_keys, among, once, Op, takes, refuses, ignores, forgets, after_op, said_in, started_run, keys_run}
use Rattle.rules.proofs.Basics.{cases_bool, cases-option, true-false, or_left, or_right, or_cases, cond_both, cond_cases, Every, every_imp, every_both, every_left, every_right, Within}
use Rattle.rules.proofs.FamilyLaws.{Lawful, Keeps, Ascends, Lists, Brings, every_step, every_steps, every_insert, every_forget, every_drop_open, room_steps, length_drop_open, length_forget, length_insert, ascends_insert, ascends_step, ascends_steps, ascends_drop_open, ascends_forget, lists_steps, lists_closed, find_step, find_drop, find_forget, find_forget_own, find_none_past, every_keys, on_held_key, differ_sym}

-- ---- a run of operations

module _ (F : Family) where
  unfoldable pub run : List (Entry F) → List (Op F) → List (Entry F)
  run t [] = t
  run t (o ∷ os) = run (after_op F t o) os

  pub run_append : (t : List (Entry F)) (os ps : List (Op F)) → run t (os ++ ps) ≡ run (run t os) ps
  unfolding run
  run_append t [] ps = refl
  run_append t (o ∷ os) ps = run_append (after_op F t o) os ps

  -- said of every field of every taken block
  abbrev pub InFields : (Said F → Type 0) → Op F → Type 0
  InFields P (takes fs) = Every P fs
  InFields P refuses = Unit {0}
  InFields P ignores = Unit {0}
  InFields P (forgets k) = Unit {0}

  -- a table never grows past its room
  pub room_op : (t : List (Entry F)) (o : Op F) → length t ≤ F.room → length (after_op F t o) ≤ F.room
  unfolding after_op
  room_op t (takes fs) h = room_steps F t fs h
  room_op t refuses h = rw (length_drop_open F t) h
  room_op t ignores h = h
  room_op t (forgets k) h = omega (arith, length_forget F k t)

  pub room_run : (t : List (Entry F)) (os : List (Op F)) → length t ≤ F.room → length (run t os) ≤ F.room
  unfolding run
  room_run t [] h = h
  room_run t (o ∷ os) h = room_run (after_op F t o) os (room_op t o h)

module _ (F : Family) (L : Lawful F) where
  open F use {Key}

  -- keys ascend
  pub ascends_op : (t : List (Entry F)) (o : Op F) → Ascends F (held_keys F t) → Ascends F (held_keys F (after_op F t o))
  unfolding after_op
  ascends_op t (takes fs) h = ascends_steps F L t fs h
  ascends_op t refuses h = ascends_drop_open F L t h
  ascends_op t ignores h = h
  ascends_op t (forgets k) h = ascends_forget F L k t h

  pub ascends_run : (t : List (Entry F)) (os : List (Op F)) → Ascends F (held_keys F t) → Ascends F (held_keys F (run F t os))
  unfolding run
  ascends_run t [] h = h
  ascends_run t (o ∷ os) h = ascends_run (after_op F t o) os (ascends_op t o h)

  -- what fields keep of every entry, and what stays without an open list
  pub every_op : (P : Entry F → Type 0) → ((e : Entry F) → P e → P (closed F e)) → (t : List (Entry F)) (o : Op F)
      → InFields F (Keeps F P) o → Every P t → Every P (after_op F t o)
  unfolding after_op
  every_op P c t (takes fs) k h = every_steps F L P t fs k h
  every_op P c t refuses k h = every_drop_open F P t c h
  every_op P c t ignores k h = h
  every_op P c t (forgets l) k h = every_forget F P l t h

  pub every_run : (P : Entry F → Type 0) → ((e : Entry F) → P e → P (closed F e)) → (t : List (Entry F)) (os : List (Op F))
      → Every (InFields F (Keeps F P)) os → Every P t → Every P (run F t os)
  unfolding run
  every_run P c t [] k h = h
  every_run P c t (o ∷ os) k h = every_run P c (after_op F t o) os k.1 (every_op P c t o k.0 h)

  -- lists keep what fields bring
  pub lists_op : (Q : Key → Listed F → Type 0) (t : List (Entry F)) (o : Op F) → InFields F (λ f. Brings F Q f.key f.act) o
      → Every (Lists F Q) t → Every (Lists F Q) (after_op F t o)
  unfolding after_op
  lists_op Q t (takes fs) b h = lists_steps F L Q t fs b h
  lists_op Q t refuses b h = every_drop_open F (Lists F Q) t (lists_closed F Q) h
  lists_op Q t ignores b h = h
  lists_op Q t (forgets l) b h = every_forget F (Lists F Q) l t h

  pub lists_run : (Q : Key → Listed F → Type 0) (t : List (Entry F)) (os : List (Op F))
      → Every (InFields F (λ f. Brings F Q f.key f.act)) os → Every (Lists F Q) t → Every (Lists F Q) (run F t os)
  unfolding run
  lists_run Q t [] b h = h
  lists_run Q t (o ∷ os) b h = lists_run Q (after_op F t o) os b.1 (lists_op Q t o b.0 h)

-- ---- the table is never full

module _ (F : Family) where
  -- a field starts no other keys than these
  abbrev pub StartIn : List F.Key → F.Key → Act F → Type 0
  StartIn us k (start l) = among F k us ≡ true
  StartIn us k (continuation l) = Unit {0}
  StartIn us k no_list = Unit {0}
  StartIn us k drops = Unit {0}

  -- an entry has one of these keys
  abbrev pub KeyIn : List F.Key → Entry F → Type 0
  KeyIn us e = among F e.key us ≡ true

  pub start_in : (us : List F.Key) (k : F.Key) (a : Act F) (ks : List F.Key)
      → Every (λ k. among F k us ≡ true) (if_start F a k ks) → StartIn us k a × Every (λ k. among F k us ≡ true) ks
  unfolding if_start
  start_in us k (start l) ks h = h
  start_in us k (continuation l) ks h = (tt, h)
  start_in us k no_list ks h = (tt, h)
  start_in us k drops ks h = (tt, h)

  pub starts_in : (us : List F.Key) (fs : List (Said F)) → Every (λ k. among F k us ≡ true) (started_keys F fs)
      → Every (λ f. StartIn us f.key f.act) fs
  unfolding started_keys
  starts_in us [] h = tt
  starts_in us (f ∷ fs) h =
      let p = start_in us f.key f.act (started_keys F fs) h in
      (p.0, starts_in us fs p.1)

  pub length_forget_least : (k : F.Key) (t : List (Entry F)) → length t ≤ suc (length (forget F k t))
  unfolding forget
  length_forget_least k [] = omega arith
  length_forget_least k (e ∷ es) =
      cond_both (λ (u : List (Entry F)). suc (length es) ≤ suc (length u)) (F.same_key k e.key) es (e ∷ forget F k es)
      (omega arith) (omega (arith, length_forget_least k es))

module _ (F : Family) (L : Lawful F) where
  open F use {Key, same_key, room}

  -- each of these keys is one of them
  pub among_self : (us : List Key) → Every (λ k. among F k us ≡ true) us
  unfolding among
  among_self [] = tt
  among_self (u ∷ us) = (
    or_left (same_key u u) (among F u us) (L.same_self u),
    every_imp (λ k. among F k us ≡ true) (λ k. (same_key k u || among F k us) ≡ true) (λ k. or_right (same_key k u) (among F k us)) us
        (among_self us),
  )

  -- where nothing is found of a key, every entry has another
  pub none_every : (k : Key) (t : List (Entry F)) → find F k t ≡ none → Every (λ e. same_key k e.key ≡ false) t
  none_every k [] h = tt
  none_every k (e ∷ es) h = let p = find_none_past F L k e es h in (p.0, none_every k es p.1)

  -- ascending keys are no more than the distinct ones that they are among
  pub keys_fit : (us : List Key) (t : List (Entry F)) → Ascends F (held_keys F t) → Every (KeyIn F us) t → length t ≤ length (once F us)
  unfolding once among
  keys_fit [] [] a h = omega arith
  keys_fit [] (e ∷ es) a h = true-false h.0 refl
  keys_fit (u ∷ us) t a h =
      let old : among F u us ≡ true → length t ≤ length (once F us) =
      λ m. keys_fit us t a
      (every_imp (KeyIn F (u ∷ us)) (KeyIn F us)
      (λ e n. or_cases (same_key e.key u) (among F e.key us) n (λ s. rw (L.same_is e.key u s) m) (λ q. q)) t h) in
      let rest : length (forget F u t) ≤ length (once F us) =
      keys_fit us (forget F u t) (ascends_forget F L u t a)
      (every_both (λ e. same_key u e.key ≡ false) (KeyIn F (u ∷ us)) (KeyIn F us)
      (λ e d n. or_cases (same_key e.key u) (among F e.key us) n (λ s. true-false s (differ_sym F L u e.key d)) (λ q. q))
      (forget F u t) (none_every u (forget F u t) (find_forget_own F L u t a)) (every_forget F (KeyIn F (u ∷ us)) u t h)) in
      cond_cases (λ (ks : List Key). length t ≤ length ks) (among F u us) (once F us) (u ∷ once F us)
      old (λ m. omega (arith, length_forget_least F u t))

  -- so there is room for one of them that is not held
  pub room_left : (us : List Key) (t : List (Entry F)) (e : Entry F) → Ascends F (held_keys F t) → Every (KeyIn F us) t
      → length (once F us) ≤ room → KeyIn F us e → find F e.key t ≡ none → ltb (length t) room ≡ true
  room_left us t e a h fit m n =
      lt-ltb (length t) room
      (omega (arith, length_insert F e t, keys_fit us (insert F e t) (ascends_insert F L e t n a) (every_insert F (KeyIn F us) e t m h)))

-- ---- one key alone

module _ (F : Family) where
  open F use {Key, same_key, State}

  -- what a field makes of what is held of a key where there is room
  unfoldable pub on_key : Key → Option (Entry F) → Said F → Option (Entry F)
  on_key k o f = cond (same_key k f.key) (effect F true f o).0 o

  unfoldable pub on_key_all : Key → Option (Entry F) → List (Said F) → Option (Entry F)
  on_key_all k o [] = o
  on_key_all k o (f ∷ fs) = on_key_all k (on_key k o f) fs

  unfoldable pub on_key_op : Key → Option (Entry F) → Op F → Option (Entry F)
  on_key_op k o (takes fs) = on_key_all k o fs
  on_key_op k o refuses = map (closed F) o
  on_key_op k o ignores = o
  on_key_op k o (forgets l) = cond (same_key k l) none o

  unfoldable pub on_key_run : Key → Option (Entry F) → List (Op F) → Option (Entry F)
  on_key_run k o [] = o
  on_key_run k o (p ∷ ps) = on_key_run k (on_key_op k o p) ps

  pub starts_in_op : (us : List Key) (o : Op F) → Every (λ k. among F k us ≡ true) (started_keys F (said_in F o))
      → InFields F (λ f. StartIn F us f.key f.act) o
  unfolding said_in
  starts_in_op us (takes fs) h = starts_in F us fs h
  starts_in_op us refuses h = tt
  starts_in_op us ignores h = tt
  starts_in_op us (forgets k) h = tt

  pub starts_in_run : (us : List Key) (os : List (Op F)) → Every (λ k. among F k us ≡ true) (started_run F os)
      → Every (InFields F (λ f. StartIn F us f.key f.act)) os
  unfolding started_run
  starts_in_run us [] h = tt
  starts_in_run us (o ∷ os) h = (
    starts_in_op us o (every_left (λ k. among F k us ≡ true) (started_keys F (said_in F o)) (started_run F os) h),
    starts_in_run us os (every_right (λ k. among F k us ≡ true) (started_keys F (said_in F o)) (started_run F os) h),
  )

  -- only a start of a key that is not held needs room
  pub unheld_fits : (us : List Key) (r : Bool) (k : Key) (s : State) (a : Act F) → StartIn F us k a → (among F k us ≡ true → r ≡ true)
      → on_unheld F r k s a ≡ on_unheld F true k s a
  unfolding on_unheld
  unheld_fits us r k s (start l) i h = rw (h i)
  unheld_fits us r k s (continuation l) i h = refl
  unheld_fits us r k s no_list i h = refl
  unheld_fits us r k s drops i h = refl

  pub unheld_in : (us : List Key) (r : Bool) (k : Key) (s : State) (a : Act F) → StartIn F us k a → Within (KeyIn F us) (on_unheld F r k s a).0
  unfolding on_unheld fresh
  unheld_in us true k s (start l) i = i
  unheld_in us false k s (start l) i = tt
  unheld_in us r k s (continuation l) i = tt
  unheld_in us r k s no_list i = tt
  unheld_in us r k s drops i = tt

  -- the held keys stay among these
  pub keeps_in : (us : List Key) (f : Said F) → StartIn F us f.key f.act → Keeps F (KeyIn F us) f
  unfolding effect kept
  keeps_in us f i r none w h = unheld_in us r f.key f.state f.act i
  keeps_in us f i r (some e) w h = rw (on_held_key F e f.state f.stamp f.act) h

  pub closed_in : (us : List Key) (e : Entry F) → KeyIn F us e → KeyIn F us (closed F e)
  unfolding closed entry_with
  closed_in us e h = h

-- held keys ascend, and are among these, whose distinct ones find room
pub record Fits (F : Family) (us : List F.Key) (t : List (Entry F)) : Type 0 where
  pub ascend : Ascends F (held_keys F t)
  pub held : Every (KeyIn F us) t
  pub enough : length (once F us) ≤ F.room

module _ (F : Family) (L : Lawful F) where
  open F use {Key, same_key, room}

  pub fits_step : (us : List Key) (t : List (Entry F)) (f : Said F) → Fits F us t → StartIn F us f.key f.act → Fits F us (step F t f).0
  fits_step us t f h i =
      record {
        ascend = ascends_step F L t f h.ascend;
        held = every_step F L (KeyIn F us) t f (keeps_in F us f i) h.held;
        enough = h.enough;
      }

  pub fits_steps : (us : List Key) (t : List (Entry F)) (fs : List (Said F)) → Fits F us t → Every (λ f. StartIn F us f.key f.act) fs
      → Fits F us (steps F t fs).0
  unfolding steps
  fits_steps us t [] h i = h
  fits_steps us t (f ∷ fs) h i = fits_steps us (step F t f).0 fs (fits_step us t f h i.0) i.1

  pub fits_drop_open : (us : List Key) (t : List (Entry F)) → Fits F us t → Fits F us (drop_open F t)
  fits_drop_open us t h =
      record {
        ascend = ascends_drop_open F L t h.ascend;
        held = every_drop_open F (KeyIn F us) t (closed_in F us) h.held;
        enough = h.enough;
      }

  pub fits_forget : (us : List Key) (k : Key) (t : List (Entry F)) → Fits F us t → Fits F us (forget F k t)
  fits_forget us k t h =
      record { ascend = ascends_forget F L k t h.ascend; held = every_forget F (KeyIn F us) k t h.held; enough = h.enough }

  pub fits_op : (us : List Key) (t : List (Entry F)) (o : Op F) → Fits F us t → InFields F (λ f. StartIn F us f.key f.act) o
      → Fits F us (after_op F t o)
  unfolding after_op
  fits_op us t (takes fs) h i = fits_steps us t fs h i
  fits_op us t refuses h i = fits_drop_open us t h
  fits_op us t ignores h i = h
  fits_op us t (forgets k) h i = fits_forget us k t h

  -- a field finds room if it needs it
  pub effect_fits : (us : List Key) (t : List (Entry F)) (f : Said F) → Fits F us t → StartIn F us f.key f.act
      → effect F (ltb (length t) room) f (find F f.key t) ≡ effect F true f (find F f.key t)
  unfolding effect
  effect_fits us t f h i =
      cases-option (find F f.key t)
      (λ n. rw n (unheld_fits F us (ltb (length t) room) f.key f.state f.act i
      (λ m. room_left F L us t (record { key = f.key; state = f.state; shown = none; draft = none; stamp = F.unstamped }) h.ascend h.held h.enough m n)))
      (λ e s. rw s)

  pub find_step_fits : (us : List Key) (k : Key) (t : List (Entry F)) (f : Said F) → Fits F us t → StartIn F us f.key f.act
      → find F k (step F t f).0 ≡ on_key F k (find F k t) f
  unfolding on_key
  find_step_fits us k t f h i =
      find_step F L k t f ∙
      cases_bool (same_key k f.key)
      (λ s. rw s (rw (L.same_is k f.key s) (ap (λ (r : Option (Entry F) × Note). r.0) (effect_fits us t f h i))))
      (λ s. rw s)

  pub find_steps_fits : (us : List Key) (k : Key) (t : List (Entry F)) (fs : List (Said F)) → Fits F us t
      → Every (λ f. StartIn F us f.key f.act) fs → find F k (steps F t fs).0 ≡ on_key_all F k (find F k t) fs
  unfolding steps on_key_all
  find_steps_fits us k t [] h i = refl
  find_steps_fits us k t (f ∷ fs) h i =
      find_steps_fits us k (step F t f).0 fs (fits_step us t f h i.0) i.1
      ∙ ap (λ (o : Option (Entry F)). on_key_all F k o fs) (find_step_fits us k t f h i.0)

  pub find_op_fits : (us : List Key) (k : Key) (t : List (Entry F)) (o : Op F) → Fits F us t → InFields F (λ f. StartIn F us f.key f.act) o
      → find F k (after_op F t o) ≡ on_key_op F k (find F k t) o
  unfolding after_op on_key_op
  find_op_fits us k t (takes fs) h i = find_steps_fits us k t fs h i
  find_op_fits us k t refuses h i = find_drop F k t
  find_op_fits us k t ignores h i = refl
  find_op_fits us k t (forgets l) h i = find_forget F L k l t h.ascend

  pub find_run_fits : (us : List Key) (k : Key) (t : List (Entry F)) (os : List (Op F)) → Fits F us t
      → Every (InFields F (λ f. StartIn F us f.key f.act)) os → find F k (run F t os) ≡ on_key_run F k (find F k t) os
  unfolding run on_key_run
  find_run_fits us k t [] h i = refl
  find_run_fits us k t (o ∷ os) h i =
      find_run_fits us k (after_op F t o) os (fits_op us t o h i.0) i.1
      ∙ ap (λ (x : Option (Entry F)). on_key_run F k x os) (find_op_fits us k t o h i.0)

  -- the keys held in a table or started in a run, where the distinct ones find room
  pub fits_all : (t : List (Entry F)) (os : List (Op F)) → Ascends F (held_keys F t) → keys_run F t os ≤ room
      → Fits F (held_keys F t ++ started_run F os) t
  unfolding keys_run
  fits_all t os a n =
      let us = held_keys F t ++ started_run F os in
      record {
        ascend = a;
        held = every_keys F (λ l. among F l us ≡ true) t (every_left _ (held_keys F t) (started_run F os) (among_self F L us));
        enough = n;
      }

  pub starts_all : (t : List (Entry F)) (os : List (Op F)) → Every (λ k. among F k (held_keys F t ++ started_run F os) ≡ true) (started_run F os)
  starts_all t os = every_right _ (held_keys F t) (started_run F os) (among_self F L (held_keys F t ++ started_run F os))

  -- what is held of a key after a run is worked out from its own fields alone, where the distinct keys held or started are no
  -- more than the table has room for: waits for R-11 (document 02)
  pub find_run : (k : Key) (t : List (Entry F)) (os : List (Op F)) → Ascends F (held_keys F t) → keys_run F t os ≤ room
      → find F k (run F t os) ≡ on_key_run F k (find F k t) os
  find_run k t os a n =
      let us = held_keys F t ++ started_run F os in
      find_run_fits us k t os (fits_all t os a n) (starts_in_run F us os (starts_all t os))
