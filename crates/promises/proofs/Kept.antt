-- Every table that a function hands back meets the rules in its one stored form, where the given one does. In order: reading a
-- block, a recording, forgetting; loading a sheet; the table that holds nothing.
use Prim.Native.Nat.{ℕ, ◌<◌}
use mathlib.Core.Path.{◌≡◌, ap}
use mathlib.Core.List.{List}
use lib.ListN.{get_or}
use Rattle.rules.specs.Collecting.{nothing}
use Rattle.rules.specs.Outcomes.{read_block, read_recording, forgotten}
use Rattle.rules.proofs.TableRules.{nothing_meets}
use Rattle.rules.proofs.LinkageLaws.{block_keeps, recording_keeps, forget_keeps}
use Rattle.layout.proofs.Laws.{load_meets}
use Rattle.table.specs.declared.Table.{Table}
use Rattle.table.specs.declared.Forgotten.{Forgotten}
use Rattle.table.specs.Stored.{store_table, Stored, stored, not_stored}
use Rattle.table.specs.Answers.{forgotten_as}
use Rattle.reading.specs.declared.Answer.{Answer}
use Rattle.reading.specs.declared.Recorded.{Recorded}
use Rattle.reading.specs.Runs.{run_as, recorded_as}
use Rattle.sheet.specs.declared.Loaded.{Loaded}
use Rattle.sheet.specs.Loading.{Loads}
use Rattle.promises.proofs.Contracts.{ReadsBlock, ReadsRecording, Forgets}

pub read_block_keeps : (t : Table) (fib : List ℕ) (r : Answer) → ((i : ℕ) → get_or fib i 0 < 256) → Stored t → ReadsBlock t fib r → Stored r.table
unfolding Stored run_as
read_block_keeps t fib r b s (stored c f p a) = ((read_block c fib).left, block_keeps c fib b f, ap (λ (x : Answer). x.table) a)
read_block_keeps t fib r b s (not_stored n a) = absurd (n s)

pub read_recording_keeps : (t : Table) (bytes : List ℕ) (r : Recorded) → ((i : ℕ) → get_or bytes i 0 < 256) → Stored t → ReadsRecording t bytes r → Stored r.table
unfolding Stored recorded_as
read_recording_keeps t bytes r b s (stored c f p a) = (read_recording c bytes, recording_keeps c bytes b f, ap (λ (x : Recorded). x.table) a)
read_recording_keeps t bytes r b s (not_stored n a) = absurd (n s)

pub forget_key_keeps : (t : Table) (k : ℕ) (r : Forgotten) → Stored t → Forgets t k r → Stored r.table
unfolding Stored forgotten_as
forget_key_keeps t k r s (stored c f p a) = (forgotten k c, forget_keeps k c f, ap (λ (x : Forgotten). x.table) a)
forget_key_keeps t k r s (not_stored n a) = absurd (n s)

-- a loaded table meets them, whatever the bytes
pub load_sheet_meets : (bytes : List ℕ) (r : Loaded) → Loads bytes r → Stored r.table
unfolding Stored
load_sheet_meets bytes r a = (a.left, load_meets a.load, a.stored)

-- the table that holds nothing meets them
pub empty_meets : (t : Table) → t ≡ store_table nothing → Stored t
unfolding Stored
empty_meets t e = (nothing, nothing_meets, e)
