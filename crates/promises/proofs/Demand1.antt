-- Whatever bytes, table and buffers are handed over, a call ends with one answer of the numbered list; a refusal takes away the open
-- lists and counts one block more, where a block of 32 bytes was refused for what is in it, and nothing else (document 00, demand 1; since
-- document 02's R-9 such a block is counted).
--
-- Below, of the code of each public function, which requires nothing of its caller: it ends, and the answer, with what is left, is one
-- of those that the cited type has. Each of them says its number, when it is given and what is left (BlockAnswer to CountAnswer:
-- Answers.antt; WriteAnswer, LoadAnswer: Writing.antt; the reasons of 2 to 6: Refused, rules/proofs/LinkageLaws.antt; the first fault
-- within the class answered, at the place that the answer gives: FirstFault, rules/proofs/FirstFault.antt). Of these answers what a
-- refusal leaves, and that no contract admits a second one, is handed on from where it is proved. What answer 0 leaves is demand 2's.
use Rattle.pieces.specs.Air.{air}
use Rattle.layout.specs.Sheet.{sheet}
use Rattle.text.specs.Listing.{listing}
use Rattle.text.specs.Confirmed.{confirmed_listing}
use Rattle.columns.specs.Columns.{columns}
use Rattle.screen.specs.Screen.{totals_text}
use Rattle.outputs.specs.Output.{output_of}
use Rattle.reading.specs.contracts.read_block.{ended as read_block_ended}
use Rattle.reading.proofs.read_block as read_block
use Rattle.reading.specs.contracts.read_recording.{ended as read_recording_ended}
use Rattle.reading.proofs.read_recording as read_recording
use Rattle.table.specs.contracts.forget_key.{ended as forget_key_ended}
use Rattle.table.proofs.forget_key as forget_key
use Rattle.table.specs.contracts.copy_out.{ended as copy_out_ended}
use Rattle.table.proofs.copy_out as copy_out
use Rattle.table.specs.contracts.Table.totals.{ended as totals_ended}
use Rattle.table.proofs.Table.totals as totals
use Rattle.text.specs.contracts.write_listing.{ended as write_listing_ended}
use Rattle.text.proofs.write_listing as write_listing
use Rattle.text.specs.contracts.write_confirmed.{ended as write_confirmed_ended}
use Rattle.text.proofs.write_confirmed as write_confirmed
use Rattle.columns.specs.contracts.write_columns.{ended as write_columns_ended}
use Rattle.columns.proofs.write_columns as write_columns
use Rattle.screen.specs.contracts.write_totals.{ended as write_totals_ended}
use Rattle.screen.proofs.write_totals as write_totals
use Rattle.sheet.specs.contracts.write_sheet.{ended as write_sheet_ended}
use Rattle.sheet.proofs.write_sheet as write_sheet
use Rattle.air.specs.contracts.write_air.{ended as write_air_ended}
use Rattle.air.proofs.write_air as write_air
use Rattle.outputs.specs.contracts.write_output.{ended as write_output_ended}
use Rattle.outputs.proofs.write_output as write_output
use Rattle.sheet.specs.contracts.load_sheet.{ended as load_sheet_ended}
use Rattle.sheet.proofs.load_sheet as load_sheet
use Rattle.promises.proofs.Proved as Proved
use Rattle.promises.proofs.Proved.{Promised, promised_so}
use Rattle.promises.proofs.Answers.{BlockAnswer, RecordingAnswer, ForgetAnswer, CopyAnswer, CountAnswer, read_block_answers, read_recording_answers, forget_key_answers, copy_out_answers, totals_answers}
use Rattle.promises.proofs.Writing.{WriteAnswer, LoadAnswer, load_sheet_answers}
use Rattle.promises.proofs.Written.{write_listing_answers, write_confirmed_answers, write_columns_answers, write_totals_answers, write_sheet_answers, write_air_answers, write_output_answers}
-- what a refusal leaves: of 2 to 6 everything but the open lists and the count, of every other everything; loading hands back the empty table; and
-- the place that a block's answer gives: that of the first fault within the class answered, or 0
pub use Rattle.promises.proofs.Answers.{read_block_refused, read_block_place, read_block_no_place, read_recording_refused, forget_key_refused, copy_out_refused}
pub use Rattle.promises.proofs.Buffers.{write_refused}
pub use Rattle.promises.proofs.Writing.{load_sheet_refused}
-- one answer
pub use Rattle.promises.proofs.Single.{read_block_single, read_recording_single, forget_key_single, copy_out_single, totals_single, write_single, load_sheet_single}

-- every call ends with an answer of the list
module _ {M : Type 1} where
  pub read_block_ends : Promised read_block_ended read_block.Symbol.code read_block.Symbol.name (λ κs a r z. BlockAnswer a.0 a.1.0.now r) M
  read_block_ends = promised_so read_block_ended _ _ _ _ (λ κs a r z. read_block_answers a.0 a.1.0.now r) Proved.read_block_proved

  pub read_recording_ends : Promised read_recording_ended read_recording.Symbol.code read_recording.Symbol.name (λ κs a r z. RecordingAnswer a.0 a.1.0.now r) M
  read_recording_ends = promised_so read_recording_ended _ _ _ _ (λ κs a r z. read_recording_answers a.0 a.1.0.now r) Proved.read_recording_proved

  pub forget_key_ends : Promised forget_key_ended forget_key.Symbol.code forget_key.Symbol.name (λ κs a r z. ForgetAnswer a.0 a.1.0 r) M
  forget_key_ends = promised_so forget_key_ended _ _ _ _ (λ κs a r z. forget_key_answers a.0 a.1.0 r) Proved.forget_key_proved

  -- both buffers before, the answer, both buffers after
  pub copy_out_ends : Promised copy_out_ended copy_out.Symbol.code copy_out.Symbol.name
      (λ κs a r z. CopyAnswer a.0 a.1.0 a.1.1.0.now a.1.1.1.0.now r z.1.1.0.now z.1.1.1.0.now) M
  copy_out_ends =
      promised_so copy_out_ended _ _ _ _
      (λ κs a r z. copy_out_answers a.0 a.1.0 a.1.1.0.now a.1.1.1.0.now r z.1.1.0.now z.1.1.1.0.now) Proved.copy_out_proved

  pub totals_ends : Promised totals_ended totals.Symbol.code totals.Symbol.name (λ κs a r z. CountAnswer a.0 r) M
  totals_ends = promised_so totals_ended _ _ _ _ (λ κs a r z. totals_answers a.0 r) Proved.totals_proved

  -- the buffer before, the answer, the buffer after
  pub write_listing_ends : Promised write_listing_ended write_listing.Symbol.code write_listing.Symbol.name
      (λ κs a r z. WriteAnswer (λ c. listing c a.1.0) a.0 a.1.1.0.now r z.1.1.0.now) M
  write_listing_ends = promised_so write_listing_ended _ _ _ _ (λ κs a r z. write_listing_answers a.0 a.1.0 a.1.1.0.now r z.1.1.0.now) Proved.write_listing_proved

  pub write_confirmed_ends : Promised write_confirmed_ended write_confirmed.Symbol.code write_confirmed.Symbol.name
      (λ κs a r z. WriteAnswer (λ c. confirmed_listing c a.1.0) a.0 a.1.1.0.now r z.1.1.0.now) M
  write_confirmed_ends = promised_so write_confirmed_ended _ _ _ _ (λ κs a r z. write_confirmed_answers a.0 a.1.0 a.1.1.0.now r z.1.1.0.now) Proved.write_confirmed_proved

  pub write_columns_ends : Promised write_columns_ended write_columns.Symbol.code write_columns.Symbol.name
      (λ κs a r z. WriteAnswer (columns a.1.0 a.1.1.0) a.0 a.1.1.1.0.now r z.1.1.1.0.now) M
  write_columns_ends =
      promised_so write_columns_ended _ _ _ _ (λ κs a r z. write_columns_answers a.0 a.1.0 a.1.1.0 a.1.1.1.0.now r z.1.1.1.0.now) Proved.write_columns_proved

  pub write_totals_ends : Promised write_totals_ended write_totals.Symbol.code write_totals.Symbol.name (λ κs a r z. WriteAnswer totals_text a.0 a.1.0.now r z.1.0.now) M
  write_totals_ends = promised_so write_totals_ended _ _ _ _ (λ κs a r z. write_totals_answers a.0 a.1.0.now r z.1.0.now) Proved.write_totals_proved

  pub write_sheet_ends : Promised write_sheet_ended write_sheet.Symbol.code write_sheet.Symbol.name (λ κs a r z. WriteAnswer sheet a.0 a.1.0.now r z.1.0.now) M
  write_sheet_ends = promised_so write_sheet_ended _ _ _ _ (λ κs a r z. write_sheet_answers a.0 a.1.0.now r z.1.0.now) Proved.write_sheet_proved

  pub write_air_ends : Promised write_air_ended write_air.Symbol.code write_air.Symbol.name (λ κs a r z. WriteAnswer air a.0 a.1.0.now r z.1.0.now) M
  write_air_ends = promised_so write_air_ended _ _ _ _ (λ κs a r z. write_air_answers a.0 a.1.0.now r z.1.0.now) Proved.write_air_proved

  pub write_output_ends : Promised write_output_ended write_output.Symbol.code write_output.Symbol.name
      (λ κs a r z. WriteAnswer (output_of a.0 a.1.1.0) a.1.0 a.1.1.1.0.now r z.1.1.1.0.now) M
  write_output_ends = promised_so write_output_ended _ _ _ _ (λ κs a r z. write_output_answers a.0 a.1.0 a.1.1.0 a.1.1.1.0.now r z.1.1.1.0.now) Proved.write_output_proved

  pub load_sheet_ends : Promised load_sheet_ended load_sheet.Symbol.code load_sheet.Symbol.name (λ κs a r z. LoadAnswer a.0.now r) M
  load_sheet_ends = promised_so load_sheet_ended _ _ _ _ (λ κs a r z. load_sheet_answers a.0.now r) Proved.load_sheet_proved
