-- The named contracts are those of the code: each function's own theorem, which its crate proves, is given here at the contract of
-- that name, with nothing required. A changed `ensures`, or a new `requires`, fails here.
use seplogic.Ra.Ura.{Ura}
use prog.Model.{Model}
use mir.Syntax.{Callee}
use prog.Wired.{Code, Wired}
use base.Logic.{emp}
use types.Logic.{Logic}
use contract.Monad.{fact, fact_mono, fm→mono}
use contract.Lifetimes.{Lfts}
use contract.Running.{Running}
use denote.Triple.Entry.{Args, Res}
use denote.Triple.Clauses.{Ended, AtExit, at_exit}
use denote.Triple.Spec.{Meets, exits}
use denote.Triple.Weaken.{weaken}
use denote.Triple.Table.{run_framed}
use Rattle.sheet.specs.Loading.{Loads}
use Rattle.reading.specs.contracts.read_block.{ended as read_block_ended}
use Rattle.reading.proofs.read_block as read_block
use Rattle.reading.specs.contracts.read_recording.{ended as read_recording_ended}
use Rattle.reading.proofs.read_recording as read_recording
use Rattle.table.specs.contracts.forget_key.{ended as forget_key_ended}
use Rattle.table.proofs.forget_key as forget_key
use Rattle.table.specs.contracts.copy_out.{ended as copy_out_ended}
use Rattle.table.proofs.copy_out as copy_out
use Rattle.table.specs.contracts.Table.totals.{ended as totals_ended}
use Rattle.table.proofs.Table.totals as totals
use Rattle.text.specs.contracts.write_listing.{ended as write_listing_ended}
use Rattle.text.proofs.write_listing as write_listing
use Rattle.text.specs.contracts.write_confirmed.{ended as write_confirmed_ended}
use Rattle.text.proofs.write_confirmed as write_confirmed
use Rattle.columns.specs.contracts.write_columns.{ended as write_columns_ended}
use Rattle.columns.proofs.write_columns as write_columns
use Rattle.screen.specs.contracts.write_totals.{ended as write_totals_ended}
use Rattle.screen.proofs.write_totals as write_totals
use Rattle.sheet.specs.contracts.write_sheet.{ended as write_sheet_ended}
use Rattle.sheet.proofs.write_sheet as write_sheet
use Rattle.air.specs.contracts.write_air.{ended as write_air_ended}
use Rattle.air.proofs.write_air as write_air
use Rattle.sheet.specs.contracts.load_sheet.{ended as load_sheet_ended}
use Rattle.sheet.proofs.load_sheet as load_sheet
use Rattle.outputs.specs.contracts.write_output.{ended as write_output_ended}
use Rattle.outputs.proofs.write_output as write_output
use Rattle.promises.proofs.Contracts.{ReadsBlock, ReadsRecording, Forgets, CopiesOut, Counts, WritesListing, WritesConfirmed, WritesColumns, WritesTotals, WritesSheet, WritesAir, WritesOutput}

-- this code, with nothing required of its caller, ends so that this holds of what it was passed, of what it returns and of its
-- parameters at the end
abbrev pub Promised : (e : Ended) → Code → Callee
    → ((κs : Lfts e.signature.lifetimes) → Args e.signature κs → Res e.signature κs → AtExit e κs → Type 0) → Type 1 → Type 2
Promised e code name P M = (𝓤 : Ura M) (𝓛 : Logic 𝓤) (𝓜 : Model 𝓤 𝓛.H) (𝓡 : Running 𝓤 𝓛.H 𝓜) → Wired 𝓡.env code
    → Meets 𝓛 e.signature (𝓡.run (𝓡.env name)) (λ κs a. record {
      ghost = Unit {0};
      requires = λ _. emp 𝓤;
      ensures = λ _ r. exits 𝓛 e.signature e.kept κs a (λ z. fact 𝓤 (P κs a r z));
    })

-- and so of what follows from it
pub promised_so : {M : Type 1} (e : Ended) (code : Code) (name : Callee)
    (P Q : (κs : Lfts e.signature.lifetimes) → Args e.signature κs → Res e.signature κs → AtExit e κs → Type 0)
    → ((κs : Lfts e.signature.lifetimes) (a : Args e.signature κs) (r : Res e.signature κs) (z : AtExit e κs) → P κs a r z → Q κs a r z)
    → Promised e code name P M → Promised e code name Q M
promised_so e code name P Q h p 𝓤 𝓛 𝓜 𝓡 wired =
    weaken 𝓛 e (λ κs a. record { ghost = Unit {0}; requires = λ _. emp 𝓤; ensures = λ _ r z. fact 𝓤 (P κs a r z) })
    (λ κs a _ r z. fact 𝓤 (Q κs a r z))
    (λ κs a _ r ws. fact_mono 𝓤 (P κs a r (at_exit e κs a ws)) (Q κs a r (at_exit e κs a ws)) (h κs a r (at_exit e κs a ws)))
    (𝓡.run (𝓡.env name)) (λ vs. fm→mono 𝓤 (𝓡.run (𝓡.env name) vs) (run_framed 𝓤 𝓛.H 𝓜 𝓡 (𝓡.env name) vs)) (p 𝓤 𝓛 𝓜 𝓡 wired)

pub read_block_proved : {M : Type 1}
    → Promised read_block_ended read_block.Symbol.code read_block.Symbol.name (λ κs a r z. ReadsBlock a.0 a.1.0.now r) M
read_block_proved = read_block.Met.met

pub read_recording_proved : {M : Type 1}
    → Promised read_recording_ended read_recording.Symbol.code read_recording.Symbol.name (λ κs a r z. ReadsRecording a.0 a.1.0.now r) M
read_recording_proved = read_recording.Met.met

pub forget_key_proved : {M : Type 1}
    → Promised forget_key_ended forget_key.Symbol.code forget_key.Symbol.name (λ κs a r z. Forgets a.0 a.1.0 r) M
forget_key_proved = forget_key.Met.met

pub copy_out_proved : {M : Type 1}
    → Promised copy_out_ended copy_out.Symbol.code copy_out.Symbol.name
    (λ κs a r z. CopiesOut a.0 a.1.0 a.1.1.0.now a.1.1.1.0.now r z.1.1.0.now z.1.1.1.0.now) M
copy_out_proved = copy_out.Met.met

pub totals_proved : {M : Type 1} → Promised totals_ended totals.Symbol.code totals.Symbol.name (λ κs a r z. Counts a.0 r) M
totals_proved = totals.Met.met

pub write_listing_proved : {M : Type 1}
    → Promised write_listing_ended write_listing.Symbol.code write_listing.Symbol.name (λ κs a r z. WritesListing a.0 a.1.0 a.1.1.0.now r z.1.1.0.now) M
write_listing_proved = write_listing.Met.met

pub write_confirmed_proved : {M : Type 1}
    → Promised write_confirmed_ended write_confirmed.Symbol.code write_confirmed.Symbol.name (λ κs a r z. WritesConfirmed a.0 a.1.0 a.1.1.0.now r z.1.1.0.now) M
write_confirmed_proved = write_confirmed.Met.met

pub write_columns_proved : {M : Type 1}
    → Promised write_columns_ended write_columns.Symbol.code write_columns.Symbol.name
    (λ κs a r z. WritesColumns a.0 a.1.0 a.1.1.0 a.1.1.1.0.now r z.1.1.1.0.now) M
write_columns_proved = write_columns.Met.met

pub write_totals_proved : {M : Type 1}
    → Promised write_totals_ended write_totals.Symbol.code write_totals.Symbol.name (λ κs a r z. WritesTotals a.0 a.1.0.now r z.1.0.now) M
write_totals_proved = write_totals.Met.met

pub write_sheet_proved : {M : Type 1}
    → Promised write_sheet_ended write_sheet.Symbol.code write_sheet.Symbol.name (λ κs a r z. WritesSheet a.0 a.1.0.now r z.1.0.now) M
write_sheet_proved = write_sheet.Met.met

pub write_air_proved : {M : Type 1}
    → Promised write_air_ended write_air.Symbol.code write_air.Symbol.name (λ κs a r z. WritesAir a.0 a.1.0.now r z.1.0.now) M
write_air_proved = write_air.Met.met

pub write_output_proved : {M : Type 1}
    → Promised write_output_ended write_output.Symbol.code write_output.Symbol.name
    (λ κs a r z. WritesOutput a.0 a.1.0 a.1.1.0 a.1.1.1.0.now r z.1.1.1.0.now) M
write_output_proved = write_output.Met.met

pub load_sheet_proved : {M : Type 1}
    → Promised load_sheet_ended load_sheet.Symbol.code load_sheet.Symbol.name (λ κs a r z. Loads a.0.now r) M
load_sheet_proved = load_sheet.Met.met
