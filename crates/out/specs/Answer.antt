-- The answer of a function that writes an output of a table into a lent buffer, with the buffer as it is then.
use Rattle.std.specs.Prelude.{ℕ, ◌≡◌, List, Result, Ok, Err}
use Rattle.rules.specs.declared.Outcome.{Outcome}
use Rattle.rules.specs.declared.Outcome.TheVariants.{Done, WrongTable, ShortBuffer}
use Rattle.rules.specs.Collecting.{Content}
use Rattle.table.specs.declared.Table.{Table}
use Rattle.table.specs.Stored.{Given}
use Rattle.out.specs.Writing as Writing
use Rattle.out.specs.Writing.{written_to}
use Rattle.out.specs.declared.Unwritten.{Unwritten}
use Rattle.out.specs.declared.Unwritten.TheVariants as Unwritten

-- the outcome with whose number a refusal is answered
abbrev pub outcome_of : Unwritten → Outcome
outcome_of Unwritten.WrongTable = WrongTable
outcome_of Unwritten.ShortBuffer = ShortBuffer

-- the answer and the buffer as one: the output's size, or a refusal, of which nothing is written
unfoldable pub written_as : Result ℕ Unwritten → List ℕ → Writing.Written
written_as (Ok n) buffer = record { outcome = Done; size = n; buffer = buffer }
written_as (Err why) buffer = record { outcome = outcome_of why; size = 0; buffer = buffer }

-- an output of a table's content: the table, the buffer before, the answer, the buffer after. 9 first, then 8, each with the buffer
-- as it was
abbrev pub Outputs : (Content → List ℕ) → Table → List ℕ → Result ℕ Unwritten → List ℕ → Type 0
Outputs F t old r new =
    Given t (λ c. written_as r new ≡ written_to (F c) old) (written_as r new ≡ record { outcome = WrongTable; size = 0; buffer = old })
