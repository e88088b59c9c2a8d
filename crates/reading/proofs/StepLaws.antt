-- One field on a table's stored form: what the rules' step is at a held key's place, at a new key's place, and where nothing
-- changes; each with the table that the code makes.
use Prim.Native.Nat.{ℕ, ◌<◌, ◌≤◌}
use mathlib.Core.Path.{◌≡◌, refl, sym, ap, ◌∙◌}
use mathlib.Core.Bool.{Bool, cond}
use mathlib.Core.List.{map}
use mathlib.Core.Option.{Option, none, some}
use lib.ListN.{length, get_or, set}
use lib.Dec.{leb, eqb}
use borrow.Author.Tests.{lt-ltb, le-ltb}
use Rattle.rules.specs.declared.Note.TheVariants.{Opened, Full, UnknownKey}
use Rattle.rules.specs.Field.{Field as FieldOf, key_of}
use Rattle.rules.specs.Family.{Act, start, continuation, no_list, drops, entry_with, started, continued, on_held, fresh, on_unheld, insert, store, step, opening, extended}
use Rattle.rules.specs.Receptions.{held_keys}
use Rattle.rules.specs.Collecting.{linkage, IdSet, Held, Entries, brings, act_of, said, most_keys, most_ids}
use Rattle.rules.proofs.Basics.{cases_bool}
use Rattle.rules.proofs.FamilyLaws.{Ascends}
use Rattle.rules.proofs.TableRules.{lawful}
use Rattle.rules.proofs.Entries.{place_most, insert_here, step_not_here}
use Rattle.rules.proofs.Entries as Over
use Rattle.lists.specs.Stored.{store_list, store_maybe}
use Rattle.sets.specs.Stored.{key_in, store_sets, opened_sets}
use Rattle.sets.specs.Places.{place_in}
use Rattle.sets.proofs.Entries.{Here, no_entry}
use Rattle.sets.proofs.StoreLaws.{opened_store}
use Rattle.reading.specs.Steps.{is_showing, confirmed_by}

-- ---- what a field of a held key sets

module _ (e : Held) (s : Bool) (block : ℕ) where
  started_state : (l : IdSet) (o : Option IdSet) → (started linkage e s block l o).0.state ≡ s
  unfolding started entry_with
  started_state l none = refl
  started_state l (some d) = refl

  continued_state : (l : IdSet) (o : Option IdSet) → (continued linkage e s l o).0.state ≡ s
  unfolding continued entry_with
  continued_state l none = refl
  continued_state l (some d) = cases_bool (leb (length (extended linkage d l).items) most_ids) (λ b. rw b) (λ b. rw b)

  pub held_state : (a : Act linkage) → (on_held linkage e s block a).0.state ≡ s
  unfolding on_held entry_with
  held_state (start l) = started_state l e.draft
  held_state (continuation l) = continued_state l e.draft
  held_state no_list = refl
  held_state drops = refl

  started_shown : (l : IdSet) (o : Option IdSet) → (started linkage e s block l o).0.shown ≡ cond (is_showing (started linkage e s block l o).1) o e.shown
  unfolding started entry_with is_showing
  started_shown l none = refl
  started_shown l (some d) = refl

  continued_shown : (l : IdSet) (o : Option IdSet) → (continued linkage e s l o).0.shown ≡ cond (is_showing (continued linkage e s l o).1) o e.shown
  unfolding continued entry_with is_showing
  continued_shown l none = refl
  continued_shown l (some d) = cases_bool (leb (length (extended linkage d l).items) most_ids) (λ b. rw b) (λ b. rw b)

  -- the list that was open is shown exactly where the note says so
  pub held_shown : (a : Act linkage) → (on_held linkage e s block a).0.shown ≡ cond (is_showing (on_held linkage e s block a).1) e.draft e.shown
  unfolding on_held entry_with is_showing
  held_shown (start l) = started_shown l e.draft
  held_shown (continuation l) = continued_shown l e.draft
  held_shown no_list = refl
  held_shown drops = refl

  started_number : (l : IdSet) (o : Option IdSet) → (started linkage e s block l o).0.stamp ≡ confirmed_by (started linkage e s block l o).1 e.stamp block
  unfolding started entry_with is_showing confirmed_by
  started_number l none = refl
  started_number l (some d) = refl

  continued_number : (l : IdSet) (o : Option IdSet) → (continued linkage e s l o).0.stamp ≡ confirmed_by (continued linkage e s l o).1 e.stamp block
  unfolding continued entry_with is_showing confirmed_by
  continued_number l none = refl
  continued_number l (some d) = cases_bool (leb (length (extended linkage d l).items) most_ids) (λ b. rw b) (λ b. rw b)

  -- and there it has the block's number
  pub held_number : (a : Act linkage) → (on_held linkage e s block a).0.stamp ≡ confirmed_by (on_held linkage e s block a).1 e.stamp block
  unfolding on_held entry_with is_showing confirmed_by
  held_number (start l) = started_number l e.draft
  held_number (continuation l) = continued_number l e.draft
  held_number no_list = refl
  held_number drops = refl

-- ---- a held key

-- the entry at the key's place
abbrev pub at' : Entries → ℕ → Held
at' c k = get_or c (place_in (map key_in c) k) no_entry

-- the step of the rules
pub step_here : (n : ℕ) (c : Entries) (g : FieldOf) → Here c (key_of g)
    → step linkage c (said n g)
    ≡ (
      set c (place_in (map key_in c) (key_of g)) (on_held linkage (at' c (key_of g)) (eqb g.la 1) n (act_of g)).0,
      (on_held linkage (at' c (key_of g)) (eqb g.la 1) n (act_of g)).1,
    )
unfolding said
step_here n c g h = Over.step_here linkage lawful no_entry c (said n g) h

-- ---- a key that is not held

-- a new key with a set to open, and room for it
pub step_new : (n : ℕ) (c : Entries) (g : FieldOf) → Ascends linkage (held_keys linkage c) → (Here c (key_of g) → ⊥) → act_of g ≡ start (brings g) → length c < most_keys
    → step linkage c (said n g) ≡ (insert linkage (fresh linkage (key_of g) (eqb g.la 1) (brings g)) c, Opened)
unfolding said store on_unheld
step_new n c g a z s h = step_not_here linkage lawful no_entry c (said n g) a z ∙ rw (s, lt-ltb (length c) most_keys h)

-- the table is full
pub step_full : (n : ℕ) (c : Entries) (g : FieldOf) → Ascends linkage (held_keys linkage c) → (Here c (key_of g) → ⊥) → act_of g ≡ start (brings g) → most_keys ≤ length c
    → step linkage c (said n g) ≡ (c, Full)
unfolding said store on_unheld
step_full n c g a z s h = step_not_here linkage lawful no_entry c (said n g) a z ∙ rw (s, le-ltb (length c) most_keys h)

-- a continuation, or no list
pub step_unknown_more : (n : ℕ) (c : Entries) (g : FieldOf) → Ascends linkage (held_keys linkage c) → (Here c (key_of g) → ⊥) → act_of g ≡ continuation (brings g) → step linkage c (said n g) ≡ (c, UnknownKey)
unfolding said store on_unheld
step_unknown_more n c g a z s = step_not_here linkage lawful no_entry c (said n g) a z ∙ rw s

pub step_unknown_none : (n : ℕ) (c : Entries) (g : FieldOf) → Ascends linkage (held_keys linkage c) → (Here c (key_of g) → ⊥) → act_of g ≡ no_list → step linkage c (said n g) ≡ (c, UnknownKey)
unfolding said store on_unheld
step_unknown_none n c g a z s = step_not_here linkage lawful no_entry c (said n g) a z ∙ rw s

-- the table with the new key
pub store_new : (c : Entries) (k i : ℕ) (s : Bool) (l : IdSet) → (Here c k → ⊥) → i ≡ place_in (map key_in c) k → length c < most_keys
    → store_sets (insert linkage (fresh linkage k s l) c) ≡ opened_sets (store_sets c) i k s (store_list (opening linkage l))
unfolding fresh store_maybe
store_new c k i s l n p h =
    ap store_sets (insert_here linkage lawful no_entry c (fresh linkage k s l) n)
    ∙ opened_store c (fresh linkage k s l) (place_in (map key_in c) k) refl refl (place_most linkage c k) h
    ∙ ap (λ (j : ℕ). opened_sets (store_sets c) j k s (store_list (opening linkage l))) (sym p)
