-- The laws of reading an input chunk by chunk, on plain lists. In order: bytes; whole blocks from a place on; the check of some
-- block, from a place on, of two lists and as it is kept; the starts without room, of two lists and how many; a recording of nothing,
-- of a chunk more and at its end.
use Prim.Native.Nat.{ℕ, zero, suc, ◌+◌, ◌*◌, ◌/◌, ◌%◌, ◌≤◌, ◌<◌}
use native.Mathlib.Nat.{zero-add}
use native.Mathlib.Omega.{arith}
use mathlib.Core.Path.{◌≡◌, refl, sym, ◌∙◌, ap, ap₂}
use mathlib.Core.Bool.{Bool, true, false, ◌&&◌, ◌||◌, or_assoc}
use mathlib.Core.List.{List, [], ◌∷◌, ◌++◌}
use lib.ListN.{length, get_or, take, drop, length-append, length-drop}
use Rattle.std.proofs.lemmas.List.{take_all}
use Rattle.std.proofs.Math.Bool.{or-false}
use lib.Seq.{length-take-le, take-append-le, drop-append-le}
use lib.Dec.{eqb}
use Rattle.input.specs.Counts.{IsPrefixLen}
use Rattle.rules.specs.declared.Note.{Note}
use Rattle.rules.specs.Block.{check_holds}
use Rattle.rules.specs.Collecting.{Content, nothing}
use Rattle.rules.specs.Outcomes.{read_block, read_blocks, is_full, without_room, roomless_blocks, read_recording, left_over, refused_of, refusals, roomless}
use Rattle.rules.proofs.Basics.{bit_small}
use Rattle.rules.proofs.TableRules.{nothing_meets}
use Rattle.rules.proofs.LinkageLaws.{notes_few, recording_keeps, recording_append, left_over_append}
use Rattle.table.specs.declared.Table.{Table}
use Rattle.table.specs.Stored.{store_table, Given}
use Rattle.table.proofs.GivenLaws.{given_content}
use Rattle.report.proofs.Lines.{refused_append, refused_few}
use Rattle.reading.specs.declared.Recorded.{Recorded}
use Rattle.reading.specs.Runs.{recorded_as, unrecorded}
use Rattle.std.specs.Prelude.{None}
use Rattle.std.specs.declared.option.Option.{Option}
use Rattle.std.specs.declared.io.Error.{Error}
use Rattle.input.specs.declared.Received.{Received}
use Rattle.input.specs.Reading.{some_holds, good_in, Reading, ReadsMore, ReadOn}

-- ---- bytes

-- so many at the front of a buffer
pub counts_front : (n : ℕ) (xs : List ℕ) → n ≤ length xs → IsPrefixLen n xs
counts_front n xs h = (h, sym (length-take-le n xs h))

-- bytes after bytes
pub bytes_append : (a b : List ℕ) → ((i : ℕ) → get_or a i 0 < 256) → ((i : ℕ) → get_or b i 0 < 256) → (i : ℕ) → get_or (a ++ b) i 0 < 256
bytes_append [] b p q i = q i
bytes_append (x ∷ a) b p q zero = p 0
bytes_append (x ∷ a) b p q (suc i) = bytes_append a b (λ j. p (suc j)) q i

-- ---- the check of some block

-- whole blocks first, then the rest
pub some_append : (n m k : ℕ) (a b : List ℕ) → n ≡ m + k → length a ≡ 32 * m → some_holds n (a ++ b) ≡ (some_holds m a || some_holds k b)
unfolding some_holds
some_append n zero k [] b e l = let q : n ≡ k = omega arith in ap (λ (i : ℕ). some_holds i b) q
some_append n zero k (x ∷ a) b e l = absurd (omega arith)
some_append zero (suc m) k a b e l = absurd (omega arith)
some_append (suc n) (suc m) k a b e l =
    rw (take-append-le 32 a b (omega arith)) (rw (drop-append-le 32 a b (omega arith))
    (rw (some_append n m k (drop 32 a) b (omega arith) (omega (arith, length-drop 32 a)))
    (sym (or_assoc (check_holds (take 32 a)) (some_holds m (drop 32 a)) (some_holds k b)))))

pub good_append : (a b : List ℕ) → length a % 32 ≡ 0 → good_in (a ++ b) ≡ (good_in a || good_in b)
unfolding good_in
good_append a b h = some_append (length (a ++ b) / 32) (length a / 32) (length b / 32) a b (omega (arith, length-append a b)) (omega arith)

-- the test of a block, as the code makes it
abbrev pub tested : List ℕ → Bool
tested block = eqb (length block) 32 && check_holds block

-- a block is looked at, and those after it
good_more : (block rest : List ℕ) → length block ≡ 32 → good_in (block ++ rest) ≡ (tested block || good_in rest)
unfolding good_in some_holds
good_more block rest wide =
    let one : length block / 32 ≡ 1 = omega arith in
    let here : good_in block ≡ tested block = rw (one, take_all 32 block (omega arith), wide) (or-false (check_holds block)) in
    rw (good_append block rest (omega arith), here)

-- the search so far: what the bytes from a block on say, they all say
module _ (block rest : List ℕ) (holds all : Bool) (wide : length block ≡ 32) (found : holds ≡ tested block) (so : good_in (block ++ rest) ≡ all) where
  pub good_found : holds ≡ true → true ≡ all
  good_found e = sym (ap (λ (b : Bool). b || good_in rest) (sym found ∙ e)) ∙ sym (good_more block rest wide) ∙ so

  pub good_passed : holds ≡ false → good_in rest ≡ all
  good_passed e = sym (ap (λ (b : Bool). b || good_in rest) (sym found ∙ e)) ∙ sym (good_more block rest wide) ∙ so

-- none is left
pub good_none : (rest : List ℕ) → length rest < 32 → good_in rest ≡ false
unfolding good_in some_holds
good_none rest few = let none : length rest / 32 ≡ 0 = omega arith in rw none

-- it held before, or it holds in a chunk
pub good_before : (before chunk : Bool) → before ≡ true → before ≡ (before || chunk)
good_before before chunk e = rw e

pub good_now : (before chunk r : Bool) → before ≡ false → r ≡ chunk → r ≡ (before || chunk)
good_now before chunk r e h = rw e h

-- ---- the starts without room

-- whole blocks first, then the rest
pub roomless_blocks_append : (n m k : ℕ) (t : Content) (a b : List ℕ) → n ≡ m + k → length a ≡ 32 * m
    → roomless_blocks n t (a ++ b) ≡ roomless_blocks m t a + roomless_blocks k (read_blocks m t a) b
unfolding roomless_blocks read_blocks
roomless_blocks_append n zero k t [] b e l =
    let q : n ≡ k = omega arith in
    ap (λ (i : ℕ). roomless_blocks i t b) q ∙ sym (zero-add (roomless_blocks k t b))
roomless_blocks_append n zero k t (x ∷ a) b e l = absurd (omega arith)
roomless_blocks_append zero (suc m) k t a b e l = absurd (omega arith)
roomless_blocks_append (suc n) (suc m) k t a b e l =
    rw (take-append-le 32 a b (omega arith)) (rw (drop-append-le 32 a b (omega arith))
    (omega (arith, roomless_blocks_append n m k (read_block t (take 32 a)).left (drop 32 a) b (omega arith) (omega (arith, length-drop 32 a)))))

pub roomless_append : (t : Content) (a b : List ℕ) → length a % 32 ≡ 0 → roomless t (a ++ b) ≡ roomless t a + roomless (read_recording t a) b
unfolding roomless read_recording
roomless_append t a b h =
    roomless_blocks_append (length (a ++ b) / 32) (length a / 32) (length b / 32) t a b (omega (arith, length-append a b)) (omega arith)

-- a note says it or not, and a block has at most 14 notes
without_room_few : (ns : List Note) → without_room ns ≤ length ns
unfolding without_room
without_room_few [] = omega arith
without_room_few (n ∷ ns) = omega (arith, bit_small (is_full n), without_room_few ns)

roomless_blocks_few : (n : ℕ) (t : Content) (bytes : List ℕ) → roomless_blocks n t bytes ≤ 14 * n
unfolding roomless_blocks
roomless_blocks_few zero t bytes = omega arith
roomless_blocks_few (suc n) t bytes =
    let a = read_block t (take 32 bytes) in
    omega (arith, without_room_few a.notes, notes_few t (take 32 bytes), roomless_blocks_few n a.left (drop 32 bytes))

-- fewer than there are bytes
pub roomless_few : (t : Content) (bytes : List ℕ) → roomless t bytes ≤ length bytes
unfolding roomless
roomless_few t bytes = omega (arith, roomless_blocks_few (length bytes / 32) t bytes)

-- ---- a recording

-- nothing read yet
pub reading_nothing : (t : Table) → t ≡ store_table nothing
    → Reading (record { table = t; rest = 0; full = 0; refused = 0; size = 0; good = false; failed = None })
unfolding read_recording read_blocks left_over roomless roomless_blocks refusals refused_of good_in some_holds
reading_nothing t e = record { bytes = []; each = λ i. omega arith; size = refl; table = e; rest = refl; full = refl; refused = refl; good = refl }

-- the refused blocks of bytes after whole blocks
refusals_append : (a b : List ℕ) → length a % 32 ≡ 0 → refusals (a ++ b) ≡ refusals a + refusals b
unfolding refusals
refusals_append a b h =
    let n : length (a ++ b) / 32 ≡ length a / 32 + length b / 32 = omega (arith, length-append a b) in
    ap (λ (k : ℕ). refused_of k (a ++ b)) n ∙ refused_append (length a / 32) (length b / 32) a b (omega arith)

-- a chunk read after bytes
module _ (before : Received) (chunk : List ℕ) (read : Recorded)
    (given : Given before.table (λ c. read ≡ recorded_as c chunk) (read ≡ unrecorded before.table)) where
  chunk_read : (r : Reading before) → read ≡ recorded_as (read_recording nothing r.bytes) chunk
  chunk_read r = given_content (read_recording nothing r.bytes) (recording_keeps nothing r.bytes r.each nothing_meets) r.table given

  -- no more starts without room than there are bytes
  pub full_within : Reading before → before.full + read.full ≤ before.size + length chunk
  unfolding recorded_as
  full_within r =
      let now = ap (λ (x : Recorded). x.full) (chunk_read r) in
      omega (arith, r.size, r.full, now, roomless_few nothing r.bytes, roomless_few (read_recording nothing r.bytes) chunk)

  -- nor more refused blocks
  pub refused_within : Reading before → before.refused + read.refused ≤ before.size + length chunk
  unfolding recorded_as refusals
  refused_within r =
      let now = ap (λ (x : Recorded). x.refused) (chunk_read r) in
      omega (arith, r.size, r.refused, now, refused_few (length r.bytes / 32) r.bytes, refused_few (length chunk / 32) chunk)

  -- whole blocks and then the chunk
  pub reading_chunk : (good : Bool) (failed : Option Error) → before.size % 32 ≡ 0 → ((i : ℕ) → get_or chunk i 0 < 256) → good ≡ (before.good || good_in chunk)
      → ReadsMore before chunk
      (record { table = read.table; rest = read.rest; full = before.full + read.full; refused = before.refused + read.refused; size = before.size + length chunk; good = good; failed = failed })
  unfolding ReadsMore recorded_as
  reading_chunk good failed even each g r =
      let a = r.bytes in
      let left = chunk_read r in
      let whole : length a % 32 ≡ 0 = omega (arith, r.size) in (
        record {
          bytes = a ++ chunk;
          each = bytes_append a chunk r.each each;
          size = omega (arith, r.size, length-append a chunk);
          table = ap (λ (x : Recorded). x.table) left ∙ ap (λ (c : Content). store_table c) (sym (recording_append nothing a chunk whole));
          rest = ap (λ (x : Recorded). x.rest) left ∙ sym (left_over_append a chunk whole);
          full = ap₂ ◌+◌ r.full (ap (λ (x : Recorded). x.full) left) ∙ sym (roomless_append nothing a chunk whole);
          refused =
              ap₂ ◌+◌ r.refused (ap (λ (x : Recorded). x.refused) left)
              ∙ sym (refusals_append a chunk whole);
          good = g ∙ ap (λ (b : Bool). b || good_in chunk) r.good ∙ sym (good_append a chunk whole);
        },
        refl,
      )

-- that the reading failed after these bytes changes nothing of them
unfoldable pub reading_failed : (r : Received) (failed : Option Error) → Reading r
    → Reading (record { table = r.table; rest = r.rest; full = r.full; refused = r.refused; size = r.size; good = r.good; failed = failed })
reading_failed r failed h = record { bytes = h.bytes; each = h.each; size = h.size; table = h.table; rest = h.rest; full = h.full; refused = h.refused; good = h.good }

-- a larger bound
pub within_more : (r : Received) (more : Bool) (m n : ℕ) → ReadOn r more m → m ≤ n → ReadOn r more n
within_more r more m n h l = record { read = h.read; even = h.even; within = omega (arith, h.within) }
