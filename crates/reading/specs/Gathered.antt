-- The lists of a table laid out in columns while blocks are read: 128 places to a row, a row to a key. Places past a row's length
-- mean nothing; a row as a list is the stored form of its first places.
use Rattle.std.specs.Prelude.{ℕ, ◌*◌, ◌<◌, min, ◌≡◌, true, false, cond, List, [], ◌∷◌, map, length, get_or, take, drop, replicate, Option, Some, None}
use Rattle.rules.specs.Collecting.{most_keys, most_ids}
use Rattle.rules.specs.Arrays.{padded}
use Rattle.field.specs.declared.Field.{Field}
use Rattle.lists.specs.declared.IdList.{IdList}
use Rattle.sets.specs.Stored.{past}
use Rattle.reading.specs.declared.rows.Row.{Row}
use Rattle.reading.specs.declared.rows.Rows.{Rows}
use Rattle.reading.specs.declared.rows.Stepped.{Stepped}
use Rattle.reading.specs.Steps.{is_showing, HeldStep}

-- the places of a column
abbrev pub places : ℕ
places = most_keys * most_ids

-- the list of a row
unfoldable pub row_list : List ℕ → List ℕ → Row → IdList
row_list ns ks r = record { numbers = padded most_ids 0 (take r.len ns); kinds = padded most_ids 0 (take r.len ks); len = r.len; named = r.named }

-- the lists of all rows, given their lengths and the kinds that they name
unfoldable pub row_lists : List ℕ → List ℕ → List ℕ → List ℕ → List IdList
row_lists ns ks [] ms = []
row_lists ns ks (l ∷ ls) [] = []
row_lists ns ks (l ∷ ls) (m ∷ ms) = row_list (take most_ids ns) (take most_ids ks) (record { len = l; named = m }) ∷ row_lists (drop most_ids ns) (drop most_ids ks) ls ms

unfoldable pub gathered : List ℕ → List ℕ → Rows → List IdList
gathered ns ks rows = row_lists ns ks rows.lens rows.names

-- no lists, whatever was laid out
unfoldable pub no_rows : Rows
no_rows = record { lens = replicate most_keys 0; names = replicate most_keys 0; changed = replicate most_keys true }

-- the first 128 places of a list, in the stored form
unfoldable pub packed : IdList → IdList
packed l = row_list l.numbers l.kinds (record { len = min l.len most_ids; named = l.named })

-- all rows of a table, in columns
pub record Whole (ns ks : List ℕ) (rows : Rows) : Type 0 where
  pub numbers : length ns ≡ places
  pub kinds : length ks ≡ places
  pub lens : length rows.lens ≡ most_keys
  pub names : length rows.names ≡ most_keys
  pub changed : length rows.changed ≡ most_keys

-- lists laid out in rows
pub record Laid (lists : List IdList) (rows : Rows) (ns ks : List ℕ) : Type 0 where
  pub whole : Whole ns ks rows
  pub same : gathered ns ks rows ≡ map packed lists

-- the rows that did not change are the lists that were laid out
abbrev pub Unchanged : List IdList → List ℕ → List ℕ → Rows → Type 0
Unchanged lists ns ks rows = (p : ℕ) → p < most_keys → get_or rows.changed p false ≡ false → get_or lists p past ≡ get_or (gathered ns ks rows) p past

-- what adding to a row leaves, as a list; none where not all fit
unfoldable pub appended_as : Option Row → List ℕ → List ℕ → Option IdList
appended_as (Some r) ns ks = Some (row_list ns ks r)
appended_as None ns ks = None

-- a field of a held key on its rows, shown and open: what the rules say of the open list, and where the note says so the list that was
-- open is shown
pub record RowStep (body : List ℕ) (f : Field) (s d : Row) (r : Stepped) (sn sk dn dk sn' sk' dn' dk' : List ℕ) : Type 0 where
  pub drafted : HeldStep body f (row_list dn dk d) (record { draft = row_list dn' dk' r.draft; shows = is_showing r.note; note = r.note })
  pub showing : row_list sn' sk' r.shown ≡ cond (is_showing r.note) (row_list dn dk d) (row_list sn sk s)
