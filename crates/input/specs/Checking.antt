-- What a recording was checked as: there are bytes of which this is the reading, and the report.
use Rattle.std.specs.Prelude.{ℕ, ◌/◌, ◌%◌, ◌≤◌, ◌≡◌, Bool, true, List, ◌++◌, length, IsNone, IsOk}
use Rattle.rules.specs.Outcomes.{refused_of}
use Rattle.report.specs.Report.{lines_of, report}
use Rattle.input.specs.declared.Received.{Received}
use Rattle.input.specs.declared.checking.Checked.{Checked}
use Rattle.input.specs.Reading.{Reading}

-- so many of its blocks are refused
pub record Checking (r : Checked) : Type 0 where
  pub read : Reading r.received
  pub refused : r.refused ≡ refused_of (length read.bytes / 32) read.bytes

-- the same, where `more` says that the input is not yet at its end: it goes on at the start of a block
pub record CheckedOn (r : Checked) (more : Bool) (most : ℕ) : Type 0 where
  pub read : Checking r
  pub even : more ≡ true → r.received.size % 32 ≡ 0
  pub within : r.received.size ≤ most

-- what is told of a chunk that comes next: with the lines of all blocks before it, this text is the lines of all blocks with it
pub record Follows (before : Received) (chunk text : List ℕ) : Type 0 where
  pub read : Reading before
  pub whole : lines_of (length read.bytes / 32) 0 read.bytes ++ text ≡ lines_of (length (read.bytes ++ chunk) / 32) 0 (read.bytes ++ chunk)

-- what is left to tell where no read failed and all lines were written: with the lines of all blocks before it, this text is the report of
-- what was read
pub record Ends (r : Checked) (text : List ℕ) : Type 0 where
  pub read : Checking r
  pub to_its_end : IsNone r.received.failed
  pub lines_written : IsOk r.written
  pub whole : lines_of (length read.read.bytes / 32) 0 read.read.bytes ++ text ≡ report read.read.bytes
