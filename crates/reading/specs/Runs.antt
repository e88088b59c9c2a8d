-- Blocks one after the other on the stored form, with the answer to the last of them, the starts that found no room and the refused blocks.
use Rattle.std.specs.Prelude.{ℕ, zero, suc, ◌+◌, ◌/◌, ◌≡◌, true, not, List, [], length, take, drop}
use Rattle.rules.specs.declared.Outcome.{Outcome}
use Rattle.rules.specs.declared.Outcome.TheVariants.{Done, WrongTable}
use Rattle.rules.specs.declared.Note.{Note}
use Rattle.rules.specs.Block.{bit}
use Rattle.rules.specs.Collecting.{Content, meets}
use Rattle.rules.specs.Outcomes.{Verdict, is_refused, verdict, Answer, read_block, is_full, without_room, read_recording, left_over, refusals, roomless}
use Rattle.table.specs.declared.Table.{Table}
use Rattle.table.specs.Stored.{store_table}
use Rattle.reading.specs.declared.Answer.{Answer as Stored}
use Rattle.reading.specs.declared.Reply.{Reply}
use Rattle.reading.specs.declared.Run.{Run}
use Rattle.reading.specs.Steps.{store_notes, no_notes, noted_at, is_done}
use Rattle.reading.specs.declared.Recorded.{Recorded}

-- ---- what is said of a block

-- before the first block; to a further block, before its fields; with the note of a field more
unfoldable pub no_reply : Reply
no_reply = record { outcome = Done; place = 0; full = 0; refused = 0; notes = no_notes }

unfoldable pub reply_to : Reply → Outcome → ℕ → Reply
reply_to r o place = record { outcome = o; place = place; full = r.full; refused = r.refused + bit (not (is_done o)); notes = no_notes }

unfoldable pub reply_with : Reply → ℕ → Note → Reply
reply_with r at n = record { outcome = r.outcome; place = r.place; full = r.full + bit (is_full n); refused = r.refused; notes = noted_at r.notes at n }

-- ---- blocks one after another

-- what they come to: the answer to the last of them, and in all how many starts found no room, and how many blocks were refused
pub record Ran : Type 0 where
  pub answer : Answer
  pub full : ℕ
  pub refused : ℕ

-- nothing read yet
unfoldable pub begun : Content → Ran
begun c = record { answer = record { outcome = Done; place = 0; notes = []; left = c }; full = 0; refused = 0 }

-- with the answer to one block more, by its verdict
abbrev pub counted : ℕ → ℕ → Verdict → Answer → Ran
counted full refused v a = record { answer = a; full = full + without_room a.notes; refused = refused + bit (is_refused v) }

-- the first n blocks of some bytes, after others
unfoldable pub run_blocks : ℕ → Ran → List ℕ → Ran
run_blocks zero a bytes = a
run_blocks (suc n) a bytes =
    run_blocks n (counted a.full a.refused (verdict (take 32 bytes)) (read_block a.answer.left (take 32 bytes))) (drop 32 bytes)

-- an answer as it is stored
unfoldable pub run_as : Answer → Stored
run_as a = record { outcome = a.outcome; place = a.place; notes = store_notes a.notes; table = store_table a.left }

-- and that with the counts
unfoldable pub ran_as : Ran → Run
ran_as a =
    record {
      reply = record { outcome = a.answer.outcome; place = a.answer.place; full = a.full; refused = a.refused; notes = store_notes a.answer.notes };
      table = store_table a.answer.left;
    }

-- a table that stores a content that meets the rules comes to store what its whole blocks make of it
unfoldable pub Runs : Table → List ℕ → Run → Type 0
Runs t bytes r = (c : Content) × (meets c ≡ true) × (t ≡ store_table c) × (r ≡ ran_as (run_blocks (length bytes / 32) (begun c) bytes))

-- ---- what the public functions answer

-- a table that breaks the rules is handed back, with no notes
unfoldable pub refused_table : Table → Stored
refused_table t = record { outcome = WrongTable; place = 0; notes = no_notes; table = t }

-- a recording read into a content: the bytes left over, the starts that found no room, the refused blocks, and what its whole blocks leave
unfoldable pub recorded_as : Content → List ℕ → Recorded
recorded_as c bytes = record { outcome = Done; rest = left_over bytes; full = roomless c bytes; refused = refusals bytes; table = store_table (read_recording c bytes) }

-- a table that breaks the rules is handed back, and nothing read
unfoldable pub unrecorded : Table → Recorded
unrecorded t = record { outcome = WrongTable; rest = 0; full = 0; refused = 0; table = t }
