-- The answers of each function that writes an output, by the one law over the output (Writing.antt).
use Prim.Native.Nat.{ℕ}
use mathlib.Core.Bool.{Bool}
use mathlib.Core.List.{List}
use Rattle.pieces.specs.Air.{air}
use Rattle.layout.specs.Sheet.{sheet}
use Rattle.text.specs.Listing.{listing}
use Rattle.text.specs.Confirmed.{confirmed_listing}
use Rattle.screen.specs.Screen.{totals_text}
use Rattle.table.specs.declared.Table.{Table}
use Rattle.std.specs.Prelude.{Result}
use Rattle.out.specs.declared.Unwritten.{Unwritten}
use Rattle.columns.specs.Columns.{columns}
use Rattle.outputs.specs.declared.Output.{Output}
use Rattle.outputs.specs.Output.{output_of}
use Rattle.promises.proofs.Contracts.{WritesListing, WritesConfirmed, WritesColumns, WritesTotals, WritesSheet, WritesAir, WritesOutput}
use Rattle.promises.proofs.Writing.{WriteAnswer, write_answers}

pub write_listing_answers : (t : Table) (over : ℕ) (old : List ℕ) (r : Result ℕ Unwritten) (new : List ℕ)
    → WritesListing t over old r new → WriteAnswer (λ c. listing c over) t old r new
write_listing_answers t over = write_answers (λ c. listing c over) t

pub write_confirmed_answers : (t : Table) (over : ℕ) (old : List ℕ) (r : Result ℕ Unwritten) (new : List ℕ)
    → WritesConfirmed t over old r new → WriteAnswer (λ c. confirmed_listing c over) t old r new
write_confirmed_answers t over = write_answers (λ c. confirmed_listing c over) t

pub write_columns_answers : (t : Table) (csv numbered : Bool) (old : List ℕ) (r : Result ℕ Unwritten) (new : List ℕ)
    → WritesColumns t csv numbered old r new → WriteAnswer (columns csv numbered) t old r new
write_columns_answers t csv numbered = write_answers (columns csv numbered) t

pub write_totals_answers : (t : Table) (old : List ℕ) (r : Result ℕ Unwritten) (new : List ℕ) → WritesTotals t old r new → WriteAnswer totals_text t old r new
write_totals_answers = write_answers totals_text

pub write_sheet_answers : (t : Table) (old : List ℕ) (r : Result ℕ Unwritten) (new : List ℕ) → WritesSheet t old r new → WriteAnswer sheet t old r new
write_sheet_answers = write_answers sheet

pub write_air_answers : (t : Table) (old : List ℕ) (r : Result ℕ Unwritten) (new : List ℕ) → WritesAir t old r new → WriteAnswer air t old r new
write_air_answers = write_answers air

pub write_output_answers : (o : Output) (t : Table) (over : ℕ) (old : List ℕ) (r : Result ℕ Unwritten) (new : List ℕ)
    → WritesOutput o t over old r new → WriteAnswer (output_of o over) t old r new
write_output_answers o t over = write_answers (output_of o over) t
