-- What the program hands to the system to be written: of bytes that were read, what was asked for, and all of it.
use Rattle.std.specs.Prelude.{ℕ, ◌≡◌, true, List}
use Rattle.rules.specs.declared.Outcome.TheVariants.{Done}
use Rattle.rules.specs.Collecting.{Content, nothing, meets}
use Rattle.rules.specs.Outcomes.{read_recording, left_over}
use Rattle.table.specs.declared.Table.{Table}
use Rattle.table.specs.Stored.{store_table}
use Rattle.layout.specs.Sheet.{Load}
use Rattle.outputs.specs.declared.Output.{Output}
use Rattle.outputs.specs.Output.{output_of}

-- a content that was read, with this rest
pub data Came (c : Content) (rest : ℕ) : Type 0 where
  -- as a recording, into a table that holds nothing
  of_recording : (bytes : List ℕ) → c ≡ read_recording nothing bytes → rest ≡ left_over bytes → Came c rest
  -- as a sheet, which was accepted
  of_sheet : (bytes : List ℕ) → Load bytes Done c → rest ≡ 0 → Came c rest

-- what was asked for of it
pub record Made (asked : Output) (made : List ℕ) : Type 0 where
  pub content : Content
  pub rest : ℕ
  pub came : Came content rest
  pub whole : made ≡ output_of asked rest content

-- a table that holds such a content
pub record Holding (t : Table) (rest : ℕ) : Type 0 where
  pub content : Content
  pub meets : meets content ≡ true
  pub stored : t ≡ store_table content
  pub came : Came content rest
