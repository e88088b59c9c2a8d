-- `sheet::pairs_size` meets its contract: the bytes counted and those of the identifiers that are left make all of them.
use Prim.Native.Nat.{◌+◌}
use mathlib.Core.Path.{◌≡◌}
use lib.ListN.{length, drop}
use Rattle.layout.specs.Sheet.{sheet_pairs}
use Rattle.sheet.proofs.Writes.{pairs_of}
use Rattle.sheet.proofs.pairs_size.Given as goal

abbrev pub invariant-loop-i : goal.invariant-loop-i
invariant-loop-i l = l.size + length (sheet_pairs (drop l.i (pairs_of l.list))) ≡ length (sheet_pairs (pairs_of l.list))
