-- What was read of a sheet (Parse of crate layout), as the code hands it over.
use Rattle.std.specs.Prelude.{ℕ, Bool, ◌^◌, ◌<◌, List, [], ◌∷◌, ◌++◌, ◌≡◌, Option, None, Some}
use Rattle.std.specs.Option.{option_map}
use Rattle.std.proofs.Math.Option as maths
use Rattle.rules.specs.Field.{Pair, pair}
use Rattle.rules.specs.Collecting.{Entries, Content, Shown}
use Rattle.layout.specs.Parse.{Read, Head}
use Rattle.lists.specs.declared.IdList.{IdList}
use Rattle.lists.specs.Stored.{store_list}
use Rattle.sets.specs.declared.Sets.{Sets}
use Rattle.sets.specs.Stored.{store_sets}
use Rattle.totals.specs.declared.Totals.{Totals}
use Rattle.totals.specs.Kept.{kept_up}
use Rattle.table.specs.declared.Table.{Table}
use Rattle.table.specs.Stored.{store_table}
use Rattle.sheet.specs.declared.Reader.{Reader}
use Rattle.sheet.specs.declared.SetHead.{SetHead}
use Rattle.sheet.specs.declared.ReadSet.{ReadSet}

-- what is handed over of what the parser read: it, as f has it
unfoldable pub handed : {A B : Type 0} → (A → B) → maths.Option (Read A) → Option B
handed f maths.none = None
handed f (maths.some r) = Some (f r.value)

-- that is handed over, and where something was read, the reader that stood at old stands after it
pub record Reads {A B : Type 0} (f : A → B) (o : maths.Option (Read A)) (old : Reader) (given : Option B) (new : Reader) : Type 0 where
  pub given_is : given ≡ handed f o
  pub stands : (r : Read A) → o ≡ maths.some r → new ≡ record { bytes = old.bytes; at = r.next }

-- what a test of the code's answers, P, is what this one does
abbrev pub Decides : (ℕ → Bool → Type 0) → (ℕ → Bool) → Type 0
Decides P test = (n : ℕ) (answer : Bool) → n < 2 ^ 32 → P n answer → answer ≡ test n

-- what stands in front of a set's pairs, field by field
unfoldable pub head_of : Head → SetHead
head_of h = record { key = h.key; on = h.on; named = h.named; count = h.count }

-- pairs and one more, since the parser hands over the list with the pair at its end
unfoldable pub longer : List Pair → Option (ℕ × ℕ) → Option (List Pair)
longer acc given = option_map (λ (x : ℕ × ℕ). acc ++ pair x.0 x.1 ∷ []) given

-- pairs, stored as a list with these named kinds
unfoldable pub list_of : ℕ → List Pair → IdList
list_of named items = store_list (record { items = items; named = named })

-- a set: its key, on or off, and its list as it is stored
unfoldable pub set_as : Shown → ReadSet
set_as s = record { key = s.key; on = s.on; list = store_list s.set }

-- sets, as they are stored, and their totals, one set after another
unfoldable pub sets_as : Entries → Sets × Totals
sets_as t = (store_sets t, kept_up t)

-- a content, as its table is stored
unfoldable pub table_of_sheet : maths.Option Content → Option Table
table_of_sheet maths.none = None
table_of_sheet (maths.some t) = Some (store_table t)
