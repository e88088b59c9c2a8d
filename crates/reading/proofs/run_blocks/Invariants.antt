-- `reading::run_blocks` meets its contract: before each block the desk keeps what the blocks passed leave, and within one what its fields
-- passed leave. The turns are those of RunRows.antt.
use Prim.Native.Nat.{◌+◌, ◌*◌}
use Rattle.reading.proofs.RunRows.{Kept, Between}
use Rattle.reading.proofs.run_blocks.Given as goal

abbrev pub invariant-loop-b : goal.invariant-loop-b
invariant-loop-b l = Between l.bytes l.fn.table l.desk l.reply (32 * l.b)

abbrev pub invariant-loop-i : goal.invariant-loop-i
invariant-loop-i l = Kept l.bytes l.fn.table l.desk l.reply l.found (32 * l.b) (32 * l.b + 32) l.i
