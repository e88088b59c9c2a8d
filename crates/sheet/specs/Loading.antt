-- What loading a sheet answers, as the code hands it over.
use Rattle.std.specs.Prelude.{ℕ, ◌≡◌, List}
use Rattle.rules.specs.Collecting.{Content}
use Rattle.layout.specs.Sheet.{Load}
use Rattle.table.specs.Stored.{store_table}
use Rattle.sheet.specs.declared.Loaded.{Loaded}

-- loading answers this outcome, and the table is the stored form of the content that loading leaves
pub record Loads (bytes : List ℕ) (r : Loaded) : Type 0 where
  pub left : Content
  pub load : Load bytes r.outcome left
  pub stored : r.table ≡ store_table left
