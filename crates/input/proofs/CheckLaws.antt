-- The laws of telling a recording block by block, on plain lists. In order: the blocks that are left, and telling them; what is told
-- of a chunk and at the end; a recording that is checked: nothing of it, a chunk more, its end.
use Prim.Native.Nat.{ℕ, suc, min, ◌+◌, ◌*◌, ◌/◌, ◌%◌, ◌≤◌, ◌<◌}
use native.Mathlib.Nat.{zero-add}
use native.Mathlib.Omega.{arith}
use mathlib.Core.Path.{◌≡◌, sym, ◌∙◌, ap, ap₂}
use mathlib.Core.Bool.{Bool, true}
use mathlib.Core.List.{List, [], ◌++◌}
use lib.ListN.{length, take, drop, length-append}
use lib.Seq.{take-append-le, drop-append-le}
use Rattle.std.proofs.lemmas.List.{take_all}
use Rattle.std.proofs.Math.ListN.{drop_of_length-le}
use Rattle.rules.specs.Block.{bit}
use Rattle.rules.specs.Outcomes.{verdict, is_refused, refused_of, refusals}
use Rattle.std.specs.Borrow.{MutBor}
use Rattle.out.specs.declared.Page.{Page}
use Rattle.out.specs.Page.{Opens, Writes}
use Rattle.out.proofs.Answers.{puts_front}
use Rattle.out.proofs.Pages.{Going, going_start, going_on, going_end, opened_puts}
use Rattle.report.specs.Report.{block_line, lines_of, counts_text, report}
use Rattle.report.specs.Telling.{Tells}
use Rattle.report.proofs.Lines.{lines_append, refused_append, refused_few}
use Rattle.std.specs.Prelude.{IsNone, IsOk}
use Rattle.std.specs.declared.option.Option.{Option}
use Rattle.std.specs.declared.result.Result.{Result}
use Rattle.std.specs.declared.io.Error.{Error}
use Rattle.input.specs.declared.Received.{Received}
use Rattle.input.specs.declared.checking.Checked.{Checked}
use Rattle.input.specs.Reading.{Reading, ReadsMore}
use Rattle.input.specs.Checking.{Checking, CheckedOn, Follows, Ends}
use Rattle.input.proofs.Laws.{reading_failed}

-- ---- the blocks that are left

-- their lines, after so many blocks before them, and how many of them are refused
abbrev lines_in : ℕ → List ℕ → List ℕ
lines_in before bytes = lines_of (length bytes / 32) before bytes

abbrev refused_in : List ℕ → ℕ
refused_in bytes = refused_of (length bytes / 32) bytes

-- a block, and those after it
module _ (block rest : List ℕ) (wide : length block ≡ 32) where
  count : length (block ++ rest) / 32 ≡ suc (length rest / 32)
  count = omega (arith, length-append block rest)

  block_first : take 32 (block ++ rest) ≡ block
  block_first = take-append-le 32 block rest (omega arith) ∙ take_all 32 block (omega arith)

  rest_after : drop 32 (block ++ rest) ≡ rest
  rest_after = drop-append-le 32 block rest (omega arith) ∙ ap (λ (x : List ℕ). x ++ rest) (drop_of_length-le block {i = 32} (omega arith))

  lines_here : (before : ℕ) → lines_in before (block ++ rest) ≡ block_line (before + 1) (verdict block) ++ lines_in (before + 1) rest
  unfolding lines_of
  lines_here before = rw (count, block_first, rest_after)

  refused_here : refused_in (block ++ rest) ≡ bit (is_refused (verdict block)) + refused_in rest
  unfolding refused_of
  refused_here = rw (count, block_first, rest_after)

-- none
module _ (rest : List ℕ) (few : length rest < 32) where
  none : length rest / 32 ≡ 0
  none = omega arith

  lines_end : (before : ℕ) → lines_in before rest ≡ []
  unfolding lines_of
  lines_end before = rw none

  refused_end : refused_in rest ≡ 0
  unfolding refused_of
  refused_end = rw none

-- telling block by block: the lines of what is left are what is left to write, and the refused ones so far, with those that are left,
-- are all
pub record Telling (old : Page) (before : ℕ) (bytes : List ℕ) (page : Page) (refused done : ℕ) (rest : List ℕ) : Type 0 where
  pub going : Going old (lines_in before bytes) page (lines_in (before + done) rest)
  pub all : refused + refused_in rest ≡ refused_in bytes
  pub sizes : done * 32 + length rest ≡ length bytes

pub telling_start : (old : Page) (before : ℕ) (bytes : List ℕ) → Telling old before bytes old 0 0 bytes
telling_start old before bytes =
    let z : before + 0 ≡ before = omega arith in
    record { going = rw z (going_start old (lines_in before bytes)); all = omega arith; sizes = omega arith }

module _ {old page : Page} {before refused done : ℕ} {bytes left : List ℕ} (t : Telling old before bytes page refused done left) where
  module _ (block rest : List ℕ) (number after more : ℕ) {new : Page} {answer : Bool} (here : left ≡ block ++ rest) (wide : length block ≡ 32)
      (counted : number ≡ done) (up : after ≡ done + 1) (tells : Tells page (block_line (before + number + 1) (verdict block)) (is_refused (verdict block)) new answer)
      (added : more ≡ bit answer) where
    pub telling_on : Telling old before bytes new (refused + more) after rest
    telling_on =
        let n : before + after ≡ before + done + 1 = omega arith in
        let is : more ≡ bit (is_refused (verdict block)) = added ∙ ap bit tells.refused_is in
        record {
          going = rw n (going_on (rw here (lines_here block rest wide (before + done))) t.going (rw counted at tells.writes));
          all = omega (arith, t.all, is, ap refused_in here, refused_here block rest wide);
          sizes = omega (arith, t.sizes, ap length here, length-append block rest);
        }

    -- no more are refused than there are bytes
    pub telling_within : refused + more ≤ length bytes
    telling_within = omega (arith, telling_on.all, refused_few (length bytes / 32) bytes)

  module _ (few : length left < 32) where
    pub telling_end : Writes old (lines_in before bytes) page
    telling_end = going_end (lines_end left few (before + done)) t.going

    pub telling_counts : refused ≡ refused_in bytes
    telling_counts = omega (arith, t.all, refused_end left few)

-- what stands at the front of a buffer, on which a page was opened and a text written that finds room
pub page_front : {l : MutBor (List ℕ)} {p q : Page} {us text : List ℕ} {size : ℕ} → Opens l p → Writes p us q
    → size ≡ min q.at (length q.buffer.now) → text ≡ q.buffer.now → length us ≤ length l.now → take size text ≡ us
page_front o w s t h = rw (s, t) (puts_front (opened_puts o w) h)

-- ---- what is told

-- of a chunk after whole blocks: its lines, with its blocks numbered after those
pub chunk_follows : (before : Received) (chunk text : List ℕ) → Reading before → before.size % 32 ≡ 0
    → text ≡ lines_of (length chunk / 32) (before.size / 32) chunk → Follows before chunk text
chunk_follows before chunk text r even e =
    let a = r.bytes in
    let n = length a / 32 in
    let all : length (a ++ chunk) / 32 ≡ n + length chunk / 32 = omega (arith, length-append a chunk, r.size) in
    let number : before.size / 32 ≡ n = ap (λ (x : ℕ). x / 32) r.size in
    record {
      read = r;
      whole =
          ap (λ (x : List ℕ). lines_of n 0 a ++ x) (e ∙ ap (λ (x : ℕ). lines_of (length chunk / 32) x chunk) (number ∙ sym (zero-add n)))
          ∙ sym (lines_append n (length chunk / 32) 0 a chunk (omega (arith, r.size)))
          ∙ ap (λ (x : ℕ). lines_of x 0 (a ++ chunk)) (sym all);
    }

-- at the end: the counts of all that was read
pub counts_end : (r : Checked) (text : List ℕ) → Checking r → IsNone r.received.failed → IsOk r.written
    → text ≡ counts_text (r.received.size / 32) r.refused r.received.full r.received.rest → Ends r text
unfolding report refusals
counts_end r text c f w e =
    let a = c.read in
    record { read = c; to_its_end = f; lines_written = w; whole = ap (λ (x : List ℕ). lines_of (length a.bytes / 32) 0 a.bytes ++ x) (e ∙ rw (a.size, c.refused, a.full, a.rest)) }

-- ---- a recording

-- nothing read yet
pub checking_nothing : (r : Received) (written : Result (Unit {0}) Error) → Reading r → r.size ≤ 0 → Checking (record { received = r; refused = 0; written = written })
checking_nothing r written a none = record { read = a; refused = omega (arith, a.size, refused_few (length a.bytes / 32) a.bytes) }

-- no more are refused than there are bytes
pub refused_fit : (before : Checked) (chunk : List ℕ) (told : ℕ) → Checking before → told ≡ refused_of (length chunk / 32) chunk
    → before.refused + told ≤ before.received.size + length chunk
refused_fit before chunk told c e =
    let a = c.read.bytes in
    omega (arith, c.refused, c.read.size, refused_few (length a / 32) a, refused_few (length chunk / 32) chunk)

-- a chunk more
module _ (before now : Checked) (chunk : List ℕ) (c : Checking before) (even : before.received.size % 32 ≡ 0)
    (reads : ReadsMore before.received chunk now.received) (refused : now.refused ≡ before.refused + refused_of (length chunk / 32) chunk) where
  checking_chunk : Checking now
  unfolding ReadsMore
  checking_chunk =
      let a = c.read.bytes in
      let b = reads c.read in
      let all : length b.0.bytes / 32 ≡ length a / 32 + length chunk / 32 = omega (arith, ap length b.1, length-append a chunk, c.read.size) in
      record {
        read = b.0;
        refused =
            refused ∙ ap (λ (x : ℕ). x + refused_of (length chunk / 32) chunk) c.refused
            ∙ sym (refused_append (length a / 32) (length chunk / 32) a chunk (omega (arith, c.read.size)))
            ∙ ap₂ refused_of (sym all) (sym b.1);
      }

  -- after which the input may go on if it has whole blocks
  pub checked_on : (more : Bool) (most : ℕ) → now.received.size ≡ before.received.size + length chunk → length chunk ≤ most
      → (more ≡ true → length chunk % 32 ≡ 0) → CheckedOn now more (before.received.size + most)
  checked_on more most size within whole =
      record { read = checking_chunk; even = λ e. omega (arith, whole e); within = omega arith }

-- that the reading failed after these bytes changes nothing of them
pub checking_failed : (r : Checked) (failed : Option Error) → Checking r
    → Checking (record { received = record { table = r.received.table; rest = r.received.rest; full = r.received.full; refused = r.received.refused; size = r.received.size; good = r.received.good; failed = failed }; refused = r.refused; written = r.written })
unfolding reading_failed
checking_failed r failed c = record { read = reading_failed r.received failed c.read; refused = c.refused }

-- a larger bound
pub checked_more : (r : Checked) (more : Bool) (m n : ℕ) → CheckedOn r more m → m ≤ n → CheckedOn r more n
checked_more r more m n h l = record { read = h.read; even = h.even; within = omega (arith, h.within) }
