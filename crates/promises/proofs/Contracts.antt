-- The contracts of the public functions that are given a table, each with a name, after what is read off an answer that may be a refusal.
-- Proved.antt shows that each is what its function is proved to meet.
use Prim.Native.Nat.{ℕ}
use mathlib.Core.Path.{◌≡◌}
use mathlib.Core.Bool.{Bool}
use mathlib.Core.List.{List}
use Rattle.rules.specs.declared.Outcome.{Outcome}
use Rattle.rules.specs.declared.Outcome.TheVariants.{Done, WrongTable}
use Rattle.rules.specs.Outcomes.{read_block, copy_out, not_copied}
use Rattle.pieces.specs.Air.{air}
use Rattle.layout.specs.Sheet.{sheet}
use Rattle.text.specs.Listing.{listing}
use Rattle.text.specs.Confirmed.{confirmed_listing}
use Rattle.screen.specs.Screen.{totals_text}
use Rattle.totals.specs.Totals.{totals_of}
use Rattle.totals.specs.declared.Totals.{Totals}
use Rattle.table.specs.declared.Table.{Table}
use Rattle.table.specs.declared.Forgotten.{Forgotten}
use Rattle.table.specs.declared.Copied.{Copied}
use Rattle.table.specs.declared.NotCopied.{NotCopied}
use Rattle.table.specs.declared.WrongTable as Uncounted
use Rattle.table.specs.Stored.{Given}
use Rattle.table.specs.Answers.{no_totals_told, forgotten_as, copied_as}
use Rattle.reading.specs.declared.Answer.{Answer}
use Rattle.reading.specs.declared.Recorded.{Recorded}
use Rattle.reading.specs.Runs.{run_as, refused_table, recorded_as, unrecorded}
use Rattle.std.specs.Prelude.{Result, Ok, Err}
use Rattle.out.specs.declared.Unwritten.{Unwritten}
use Rattle.out.specs.Answer.{Outputs}
use Rattle.columns.specs.Columns.{columns}
use Rattle.outputs.specs.declared.Output.{Output}
use Rattle.outputs.specs.Output.{output_of}

-- An answer with a value is `Ok` of it and a refusal `Err` of its reason. Its number in document 01 is that of the outcome it is told by:
-- 0 with a value, else that of its reason.
abbrev pub told : {A E : Type 0} → (E → Outcome) → Result A E → Outcome
told outcome (Ok a) = Done
told outcome (Err why) = outcome why

-- of what writes an output, how many bytes it says are written; of copying out, the number of the set's block. With a refusal 0
abbrev pub size_of : Result ℕ Unwritten → ℕ
size_of (Ok n) = n
size_of (Err why) = 0

abbrev pub confirmed_of : Result Copied NotCopied → ℕ
confirmed_of (Ok r) = r.confirmed
confirmed_of (Err why) = 0

-- ---- the contracts

abbrev pub ReadsBlock : Table → List ℕ → Answer → Type 0
ReadsBlock t fib r = Given t (λ c. r ≡ run_as (read_block c fib)) (r ≡ refused_table t)

abbrev pub ReadsRecording : Table → List ℕ → Recorded → Type 0
ReadsRecording t bytes r = Given t (λ c. r ≡ recorded_as c bytes) (r ≡ unrecorded t)

abbrev pub Forgets : Table → ℕ → Forgotten → Type 0
Forgets t k r = Given t (λ c. r ≡ forgotten_as k c) (r ≡ record { outcome = WrongTable; table = t })

-- both buffers before, the answer, both buffers after
abbrev pub CopiesOut : Table → ℕ → List ℕ → List ℕ → Result Copied NotCopied → List ℕ → List ℕ → Type 0
CopiesOut t k ns ks r ms js = Given t (λ c. copied_as r ms js ≡ copy_out k c ns ks) (copied_as r ms js ≡ not_copied WrongTable ns ks)

abbrev pub Counts : Table → Result Totals Uncounted.WrongTable → Type 0
Counts t r = Given t (λ c. r ≡ Ok (totals_of c)) (r ≡ Err no_totals_told)

-- each output: the buffer before, the answer, the buffer after; of the listing with the bytes left over
abbrev pub WritesListing : Table → ℕ → List ℕ → Result ℕ Unwritten → List ℕ → Type 0
WritesListing t over = Outputs (λ c. listing c over) t

-- with the numbers of blocks
abbrev pub WritesConfirmed : Table → ℕ → List ℕ → Result ℕ Unwritten → List ℕ → Type 0
WritesConfirmed t over = Outputs (λ c. confirmed_listing c over) t

-- for a spreadsheet or for eyes, with the numbers of blocks or without
abbrev pub WritesColumns : Table → Bool → Bool → List ℕ → Result ℕ Unwritten → List ℕ → Type 0
WritesColumns t csv numbered = Outputs (columns csv numbered) t

abbrev pub WritesTotals : Table → List ℕ → Result ℕ Unwritten → List ℕ → Type 0
WritesTotals = Outputs totals_text

abbrev pub WritesSheet : Table → List ℕ → Result ℕ Unwritten → List ℕ → Type 0
WritesSheet = Outputs sheet

abbrev pub WritesAir : Table → List ℕ → Result ℕ Unwritten → List ℕ → Type 0
WritesAir = Outputs air

-- by what is asked for, with the bytes left over
abbrev pub WritesOutput : Output → Table → ℕ → List ℕ → Result ℕ Unwritten → List ℕ → Type 0
WritesOutput o t over = Outputs (output_of o over) t
