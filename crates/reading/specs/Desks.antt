-- A table on the desk, while blocks are read into it: what it holds, and what a field does to it (document 01, Collecting).
use Rattle.std.specs.Prelude.{ℕ, ◌≡◌, true, false, cond, List, get_or, set, eqb}
use Rattle.rules.specs.declared.Note.{Note}
use Rattle.rules.specs.Family.{step}
use Rattle.rules.specs.Collecting.{linkage, Content, with_sets, said, meets}
use Rattle.field.specs.declared.Field.{Field}
use Rattle.field.specs.declared.FieldStep.TheVariants.{Found}
use Rattle.field.specs.FieldStep.{field_step_at, meaning}
use Rattle.lists.specs.declared.IdList.{IdList}
use Rattle.sets.specs.declared.Sets.{Sets}
use Rattle.sets.specs.Stored.{with_lists, past}
use Rattle.table.specs.declared.Table.{Table}
use Rattle.table.specs.Stored.{table_of, store_table}
use Rattle.totals.specs.declared.Totals.{Totals}
use Rattle.totals.specs.Kept.{exchanged_set}
use Rattle.reading.specs.declared.Desk.{Desk}
use Rattle.reading.specs.declared.rows.Column.{Column}
use Rattle.reading.specs.Gathered.{gathered, Whole, Laid, Unchanged}
use Rattle.reading.specs.Steps.{is_showing, HeldStep, confirmed_by}

-- the lists of a column
abbrev pub lists_of : Column → List IdList
lists_of c = gathered c.numbers c.kinds c.rows

-- the sets of a desk in their stored form, and the table
unfoldable pub sets_of : Desk → Sets
sets_of d = with_lists d.laid d.on d.confirmed (lists_of d.shown) (lists_of d.draft)

abbrev pub table_in : Desk → Table
table_in d = table_of (sets_of d) d.totals d.blocks

-- the columns are whole, and their rows that did not change are the lists that were laid out
pub record Shelved (d : Desk) : Type 0 where
  pub shown : Whole d.shown.numbers d.shown.kinds d.shown.rows
  pub draft : Whole d.draft.numbers d.draft.kinds d.draft.rows
  pub shown_laid : Unchanged d.laid.shown d.shown.numbers d.shown.kinds d.shown.rows
  pub draft_laid : Unchanged d.laid.draft d.draft.numbers d.draft.kinds d.draft.rows

-- and the table stores a content that meets the rules
pub record Ready (d : Desk) : Type 0 where
  pub shelved : Shelved d
  pub content : Content
  pub content_meets : meets content ≡ true
  pub stored : table_in d ≡ store_table content

-- the desk of sets that are laid out in these columns
abbrev pub desk_of : Sets → Column → Column → Totals → ℕ → Desk
desk_of t s d n m = record { laid = t; on = t.on; confirmed = t.confirmed; shown = s; draft = d; totals = n; blocks = m }

-- sets laid out
pub record LaidOut (t : Sets) (n : Totals) (m : ℕ) (d : Desk) : Type 0 where
  pub shown : Laid t.shown d.shown.rows d.shown.numbers d.shown.kinds
  pub draft : Laid t.draft d.draft.rows d.draft.numbers d.draft.kinds
  pub same : d ≡ desk_of t d.shown d.draft n m

-- what is shown at a place after a field with this note: the list that was open, or the set as it was
abbrev pub shown_then : Desk → ℕ → Note → IdList
shown_then d p note = cond (is_showing note) (get_or (lists_of d.draft) p past) (get_or (lists_of d.shown) p past)

-- a field of the key at a place exchanges its state and its open list, and where the note says so its number, and its set for the list
-- that was open
pub record Exchanges (d : Desk) (p : ℕ) (body : List ℕ) (f : Field) (d' : Desk) (note : Note) : Type 0 where
  pub shelved : Shelved d'
  pub draft : IdList
  pub drafted : HeldStep body f (get_or (lists_of d.draft) p past) (record { draft = draft; shows = is_showing note; note = note })
  pub sets : sets_of d' ≡ with_lists d.laid (set d.on p (eqb f.la 1)) (set d.confirmed p (confirmed_by note (get_or d.confirmed p 0) d.blocks)) (set (lists_of d.shown) p (shown_then d p note)) (set (lists_of d.draft) p draft)
  pub totals : d'.totals ≡ exchanged_set d.totals (get_or (lists_of d.shown) p past).len (get_or d.on p false) (shown_then d p note).len (eqb f.la 1)
  pub blocks : d'.blocks ≡ d.blocks

-- a field that was found in a body does to the stored table what the rules say, where they keep the table rules: so they do at each field
-- of a taken block
unfoldable pub Takes : Desk → List ℕ → Field → Desk → Note → Type 0
Takes d body f d' note =
    (c : Content) (place next : ℕ) → meets c ≡ true → table_in d ≡ store_table c → field_step_at body place ≡ Found f next → (f.qualifier ≡ 2 → ⊥)
    → meets (with_sets c (step linkage c.sets (said c.blocks (meaning body f))).0) ≡ true
    → Shelved d' × (table_in d' ≡ store_table (with_sets c (step linkage c.sets (said c.blocks (meaning body f))).0)) × (note ≡ (step linkage c.sets (said c.blocks (meaning body f))).1)
