-- What a note says of its field, by its number (document 01, Collecting), over any family: when it is given, for each of the nine, and that
-- there are no others.
use Prim.Native.Nat.{ℕ, ◌≤◌, ◌<◌}
use mathlib.Core.Path.{◌≡◌, refl}
use mathlib.Core.Bool.{Bool, true, false}
use mathlib.Core.Option.{Option, none, some}
use lib.ListN.{length}
use lib.Dec.{leb}
use borrow.Author.Tests.{leb-true, leb-false}
use Rattle.rules.specs.Family.{Family, Listed, Act, start, continuation, no_list, drops, Said, Entry, extended, started, continued, on_held, on_unheld, kept, effect}
use Rattle.rules.specs.Outcomes.{note_number}
use Rattle.rules.proofs.Basics.{cases_bool}

module _ (F : Family) where
  -- with room for one key more or not, what is held of the field's key, and what the field asks for
  pub data NoteSays (room : Bool) (held : Option (Entry F)) (act : Act F) : ℕ → Type 0 where
    -- 1, opened: a start of a key that has no open list, or of a new key with room
    opened : (l : Listed F) (e : Entry F) → act ≡ start l → held ≡ some e → e.draft ≡ none → NoteSays room held act 1
    opened_new : (l : Listed F) → act ≡ start l → held ≡ none → room ≡ true → NoteSays room held act 1
    -- 2, shown and opened: a start of a key that has one
    shown_and_opened : (l d : Listed F) (e : Entry F) → act ≡ start l → held ≡ some e → e.draft ≡ some d → NoteSays room held act 2
    -- 3, added: a continuation of an open list, which does not grow too long
    added : (l d : Listed F) (e : Entry F) → act ≡ continuation l → held ≡ some e → e.draft ≡ some d
        → length (extended F d l).items ≤ F.most → NoteSays room held act 3
    -- 4, skipped: a continuation of a held key that has no open list
    no_open_list : (l : Listed F) (e : Entry F) → act ≡ continuation l → held ≡ some e → e.draft ≡ none → NoteSays room held act 4
    -- 5, skipped: a start of a new key without room
    full : (l : Listed F) → act ≡ start l → held ≡ none → room ≡ false → NoteSays room held act 5
    -- 6, dropped: a continuation of an open list, which would grow too long
    too_long : (l d : Listed F) (e : Entry F) → act ≡ continuation l → held ≡ some e → e.draft ≡ some d
        → F.most < length (extended F d l).items → NoteSays room held act 6
    -- 7, state only: a field without a list, of a held key
    state_only : (e : Entry F) → act ≡ no_list → held ≡ some e → NoteSays room held act 7
    -- 8, unknown key: any field but a start, of a key that is not held
    unknown_list : (l : Listed F) → act ≡ continuation l → held ≡ none → NoteSays room held act 8
    unknown_state : act ≡ no_list → held ≡ none → NoteSays room held act 8
    unknown_drop : act ≡ drops → held ≡ none → NoteSays room held act 8
    -- 9, dropped: a field of a held key that drops its open list
    dropped : (e : Entry F) → act ≡ drops → held ≡ some e → NoteSays room held act 9

  started_says : (r : Bool) (e : Entry F) (l : Listed F) (s : F.State) (p : F.Stamp) (d : Option (Listed F)) → e.draft ≡ d
      → NoteSays r (some e) (start l) (note_number (started F e s p l d).1)
  unfolding started note_number
  started_says r e l s p none h = opened l e refl refl h
  started_says r e l s p (some d) h = shown_and_opened l d e refl refl h

  continued_says : (r : Bool) (e : Entry F) (l : Listed F) (s : F.State) (d : Option (Listed F)) → e.draft ≡ d
      → NoteSays r (some e) (continuation l) (note_number (continued F e s l d).1)
  unfolding continued note_number
  continued_says r e l s none h = no_open_list l e refl refl h
  continued_says r e l s (some d) h =
      cases_bool (leb (length (extended F d l).items) F.most)
      (λ b. rw b (added l d e refl refl h (leb-true _ _ b)))
      (λ b. rw b (too_long l d e refl refl h (leb-false _ _ b)))

  held_says : (r : Bool) (e : Entry F) (s : F.State) (p : F.Stamp) (a : Act F) → NoteSays r (some e) a (note_number (on_held F e s p a).1)
  unfolding on_held note_number
  held_says r e s p (start l) = started_says r e l s p e.draft refl
  held_says r e s p (continuation l) = continued_says r e l s e.draft refl
  held_says r e s p no_list = state_only e refl refl
  held_says r e s p drops = dropped e refl refl

  unheld_says : (r : Bool) (k : F.Key) (s : F.State) (a : Act F) → NoteSays r none a (note_number (on_unheld F r k s a).1)
  unfolding on_unheld note_number
  unheld_says true k s (start l) = opened_new l refl refl refl
  unheld_says false k s (start l) = full l refl refl refl
  unheld_says true k s (continuation l) = unknown_list l refl refl
  unheld_says false k s (continuation l) = unknown_list l refl refl
  unheld_says true k s no_list = unknown_state refl refl
  unheld_says false k s no_list = unknown_state refl refl
  unheld_says true k s drops = unknown_drop refl refl
  unheld_says false k s drops = unknown_drop refl refl

  -- the note of a field
  pub note_says : (room : Bool) (f : Said F) (held : Option (Entry F)) → NoteSays room held f.act (note_number (effect F room f held).1)
  unfolding effect kept
  note_says room f none = unheld_says room f.key f.state f.act
  note_says room f (some e) = held_says room e f.state f.stamp f.act
