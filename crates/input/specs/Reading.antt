-- What an input was read as: there are bytes of which this is the reading. Which bytes they are, the system knows alone.
use Rattle.std.specs.Prelude.{ℕ, zero, suc, ◌/◌, ◌%◌, ◌≤◌, ◌<◌, ◌≡◌, Bool, true, false, ◌||◌, List, ◌++◌, length, get_or, take, drop}
use Rattle.rules.specs.Block.{check_holds}
use Rattle.rules.specs.Collecting.{nothing}
use Rattle.rules.specs.Outcomes.{read_recording, left_over, refusals, roomless}
use Rattle.table.specs.Stored.{store_table}
use Rattle.sheet.specs.Loading.{Loads}
use Rattle.input.specs.declared.Received.{Received}
use Rattle.input.specs.declared.Fetched.{Fetched}

-- the check of some block holds, among the first n blocks
unfoldable pub some_holds : ℕ → List ℕ → Bool
some_holds zero bytes = false
some_holds (suc n) bytes = check_holds (take 32 bytes) || some_holds n (drop 32 bytes)

-- among all whole blocks
unfoldable pub good_in : List ℕ → Bool
good_in bytes = some_holds (length bytes / 32) bytes

-- as a recording, into a table that holds nothing: so many bytes, the table that they leave, the bytes after the last whole
-- block, the starts that found no room, the refused blocks, and whether the check of some block holds
pub record Reading (r : Received) : Type 0 where
  pub bytes : List ℕ
  pub each : (i : ℕ) → get_or bytes i 0 < 256
  pub size : r.size ≡ length bytes
  pub table : r.table ≡ store_table (read_recording nothing bytes)
  pub rest : r.rest ≡ left_over bytes
  pub full : r.full ≡ roomless nothing bytes
  pub refused : r.refused ≡ refusals bytes
  pub good : r.good ≡ good_in bytes

-- one chunk more: of whatever bytes the state before was the reading, this is the reading of those with the chunk behind them
unfoldable pub ReadsMore : Received → List ℕ → Received → Type 0
ReadsMore before chunk r = (a : Reading before) → (b : Reading r) × (b.bytes ≡ a.bytes ++ chunk)

-- a reading, where `more` says that the input is not yet at its end: it goes on at the start of a block
pub record ReadOn (r : Received) (more : Bool) (most : ℕ) : Type 0 where
  pub read : Reading r
  pub even : more ≡ true → r.size % 32 ≡ 0
  pub within : r.size ≤ most

-- as a sheet
pub record Loading (r : Fetched) : Type 0 where
  pub bytes : List ℕ
  pub each : (i : ℕ) → get_or bytes i 0 < 256
  pub size : r.size ≡ length bytes
  pub loads : Loads bytes r.loaded
