-- What the answers of write_air promise besides (document 01, Writing for air; demand 2). In order: whole blocks and at most
-- 132,096 bytes are written; as many are always enough; what is written, read twice into an empty table, shows the same sets, also
-- where read_recording reads it.
use Prim.Native.Nat.{ℕ, ◌%◌, ◌≤◌, ◌<◌}
use native.Mathlib.Omega.{arith}
use mathlib.Core.Path.{◌≡◌, refl, ap}
use mathlib.Core.Bool.{true}
use mathlib.Core.List.{List, ◌++◌}
use lib.ListN.{length, get_or, take}
use Rattle.rules.specs.Collecting.{Content, nothing, meets, shown_sets}
use Rattle.rules.specs.Outcomes.{number_of, read_recording, left_over}
use Rattle.rules.proofs.Basics.{every_at}
use Rattle.rules.proofs.TableRules.{nothing_meets}
use Rattle.rules.proofs.LinkageLaws.{recording_keeps}
use Rattle.pieces.specs.Air.{air}
use Rattle.pieces.proofs.ReadBack.{air_shows, air_shows_twice_over, air_whole, air_length, air_bytes}
use Rattle.table.specs.declared.Table.{Table}
use Rattle.table.specs.Stored.{store_table, Stored}
use Rattle.table.proofs.GivenLaws.{given_content}
use Rattle.reading.specs.declared.Recorded.{Recorded}
use Rattle.reading.specs.Runs.{recorded_as}
use Rattle.std.specs.Prelude.{Result, Ok}
use Rattle.out.specs.declared.Unwritten.{Unwritten}
use Rattle.out.proofs.Answers.{output_bytes}
use Rattle.out.specs.Answer.{outcome_of}
use Rattle.promises.proofs.Contracts.{told, size_of, ReadsRecording, WritesAir}
use Rattle.promises.proofs.Answers.{Stores}
use Rattle.promises.proofs.Writing.{WriteAnswer, written, too_short, no_table}
use Rattle.promises.proofs.Written.{write_air_answers}
use Rattle.promises.proofs.Buffers.{write_most, write_enough}

module _ (t : Table) (old : List ℕ) (r : Result ℕ Unwritten) (new : List ℕ) where
  whole : WriteAnswer air t old r new → size_of r % 32 ≡ 0
  unfolding left_over
  whole (written c m e h o s b) = let z : size_of r ≡ length (air c) = ap size_of s in rw z (air_whole c)
  whole (too_short c m e h o s b) = let z : size_of r ≡ 0 = ap size_of s in rw z
  whole (no_table n o s b) = let z : size_of r ≡ 0 = ap size_of s in rw z

  pub write_air_size : WritesAir t old r new → (size_of r ≤ 132096) × (size_of r % 32 ≡ 0)
  write_air_size w = let a = write_air_answers t old r new w in (write_most air t old r new 132096 air_length a, whole a)

  pub write_air_enough : WritesAir t old r new → Stored t → 132096 ≤ length old → number_of (told outcome_of r) ≡ 0
  write_air_enough w = write_enough air t old r new 132096 air_length (write_air_answers t old r new w)

module _ (t : Table) (old : List ℕ) (n : ℕ) (new : List ℕ) (w : WritesAir t old (Ok n) new) (c : Content) (m : meets c ≡ true) (e : t ≡ store_table c) where
  bytes : take n new ≡ air c
  bytes = output_bytes air t old n new w c m e

  -- read twice into an empty table, and as one recording of it twice over
  pub write_air_shows : shown_sets (read_recording (read_recording nothing (take n new)) (take n new)).sets ≡ shown_sets c.sets
  write_air_shows = rw bytes (air_shows c m)

  pub write_air_shows_twice_over : shown_sets (read_recording nothing (take n new ++ take n new)).sets ≡ shown_sets c.sets
  write_air_shows_twice_over = rw bytes (air_shows_twice_over c m)

  -- read twice by read_recording itself, from the table that holds nothing: what is then stored shows the same
  pub write_air_reads_back : (p q : Recorded) → ReadsRecording (store_table nothing) (take n new) p → ReadsRecording p.table (take n new) q
      → (d : Content) × Stores q.table d × (shown_sets d.sets ≡ shown_sets c.sets)
  unfolding recorded_as
  write_air_reads_back p q x y =
      let said = take n new in
      let byte : (i : ℕ) → get_or said i 0 < 256 = rw bytes (every_at (λ b. b < 256) 0 (omega arith) (air c) (air_bytes c m)) in
      let one = read_recording nothing said in
      let kept = recording_keeps nothing said byte nothing_meets in
      let first = ap (λ (z : Recorded). z.table) (given_content nothing nothing_meets refl x) in
      let second = ap (λ (z : Recorded). z.table) (given_content one kept first y) in
      (read_recording one said, (recording_keeps one said byte kept, second), write_air_shows)
