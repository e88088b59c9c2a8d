-- The one stored form of a table's content (document 01, Collecting), and what a function owes of a table that it is given.
use Rattle.std.specs.Prelude.{ℕ, ◌≡◌, true}
use Rattle.rules.specs.Collecting.{Content, meets}
use Rattle.sets.specs.declared.Sets.{Sets}
use Rattle.sets.specs.Stored.{store_sets}
use Rattle.totals.specs.declared.Totals.{Totals}
use Rattle.totals.specs.Totals.{totals_of}
use Rattle.table.specs.declared.Table.{Table}

-- a table with these sets, totals and blocks, and nothing else
abbrev pub table_of : Sets → Totals → ℕ → Table
table_of s n b = record { sets = s; totals = n; blocks = b }

-- a content: its sets, the sums over those that it shows, and its count of blocks
abbrev pub store_table : Content → Table
store_table c = record { sets = store_sets c.sets; totals = totals_of c; blocks = c.blocks }

-- a table is the stored form of a content that meets the rules
unfoldable pub Stored : Table → Type 0
Stored t = (c : Content) × (meets c ≡ true) × (t ≡ store_table c)

-- a function that is given a table: where it is the stored form of a content that meets the rules, `right` holds of that
-- content; where it is not, which is outcome 9, `otherwise` holds
pub data Given (t : Table) (right : Content → Type 0) (otherwise : Type 0) : Type 0 where
  stored : (c : Content) → meets c ≡ true → t ≡ store_table c → right c → Given t right otherwise
  not_stored : (Stored t → ⊥) → otherwise → Given t right otherwise
