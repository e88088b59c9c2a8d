-- One field on the stored form: what it does to what is held of its key (document 01, Collecting).
use Rattle.std.specs.Prelude.{ℕ, ◌+◌, ◌≡◌, Bool, true, false, not, cond, ◌&&◌, List, map, length, set, replicate, ltb}
use Rattle.rules.specs.Arrays.{padded}
use Rattle.rules.specs.declared.Outcome.{Outcome}
use Rattle.rules.specs.declared.Outcome.TheVariants.{Done, NotABlock, CheckFails, WrongFig, WrongField, WrongValue, EmptyStart, NotHeld, ShortBuffer, WrongTable, NotASheet, NotShown, TooMuch, TooManyPieces, BadCode}
use Rattle.rules.specs.declared.Note.{Note}
use Rattle.rules.specs.declared.Note.TheVariants.{Opened, ShownAndOpened, Added, NoOpenList, Full, TooLong, StateOnly, UnknownKey, Dropped}
use Rattle.rules.specs.Family.{on_held}
use Rattle.rules.specs.Collecting.{linkage, Held, act_of, if_there, most_keys}
use Rattle.field.specs.declared.Field.{Field}
use Rattle.field.specs.declared.FieldStep.TheVariants.{Found}
use Rattle.field.specs.FieldStep.{field_step_at, meaning, has_list_in, continues}
use Rattle.lists.specs.declared.IdList.{IdList}
use Rattle.lists.specs.Stored.{store_maybe}
use Rattle.reading.specs.declared.Noted.{Noted}
use Rattle.reading.specs.declared.Notes.{Notes}

-- what a field leaves of a held key's list, whether the list that was open is shown instead of the set, and the note
pub record ListStep : Type 0 where
  pub draft : IdList
  pub shows : Bool
  pub note : Note

-- the list that was open is shown: its note says so
unfoldable pub is_showing : Note → Bool
is_showing Opened = false
is_showing ShownAndOpened = true
is_showing Added = false
is_showing NoOpenList = false
is_showing Full = false
is_showing TooLong = false
is_showing StateOnly = false
is_showing UnknownKey = false
is_showing Dropped = false

-- an entry's list as it is stored, with the note, and whether the list before it is shown
unfoldable pub stepped_as : Held × Note → ListStep
stepped_as r = record { shows = is_showing r.1; draft = store_maybe r.0.draft; note = r.1 }

-- a field that was found in a body does to the stored list of an entry what the rules say
unfoldable pub HeldStep : List ℕ → Field → IdList → ListStep → Type 0
HeldStep body f draft r =
    (e : Held) (s : Bool) (block place next : ℕ) → field_step_at body place ≡ Found f next → (f.qualifier ≡ 2 → ⊥) → if_there e.key e.draft ≡ true
    → draft ≡ store_maybe e.draft → r ≡ stepped_as (on_held linkage e s block (act_of (meaning body f)))

-- the number of a held key's set after a field, by its note: that of the present block, where the list that was open is shown
unfoldable pub confirmed_by : Note → ℕ → ℕ → ℕ
confirmed_by n before block = cond (is_showing n) block before

-- a field of a key that is not held opens a list: a start, and room for one key more
unfoldable pub opens_in : Field → ℕ → Bool
opens_in f count = has_list_in f && not (continues f) && ltb count most_keys

-- the note of a field that changes nothing
unfoldable pub unheld_note : Field → Note
unheld_note f = cond (has_list_in f && not (continues f)) Full UnknownKey

-- ---- the notes of a block

-- no note; an unused place holds the first note of all
unfoldable pub no_notes : Notes
no_notes = record { notes = replicate 14 (record { note = Opened }); count = 0 }

-- one note more at a place
unfoldable pub noted_at : Notes → ℕ → Note → Notes
noted_at ns at n = record { notes = set ns.notes at (record { note = n }); count = at + 1 }

unfoldable pub noted_as : Note → Noted
noted_as n = record { note = n }

-- notes as they are stored
unfoldable pub store_notes : List Note → Notes
store_notes ns = record { notes = padded 14 (noted_as Opened) (map noted_as ns); count = length ns }

-- a block is taken
unfoldable pub is_done : Outcome → Bool
is_done Done = true
is_done NotABlock = false
is_done CheckFails = false
is_done WrongFig = false
is_done WrongField = false
is_done WrongValue = false
is_done EmptyStart = false
is_done NotHeld = false
is_done ShortBuffer = false
is_done WrongTable = false
is_done NotASheet = false
is_done NotShown = false
is_done TooMuch = false
is_done TooManyPieces = false
is_done BadCode = false
