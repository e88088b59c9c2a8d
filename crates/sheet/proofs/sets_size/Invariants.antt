-- `sheet::sets_size` meets its contract: the bytes counted and those of the sets from the present place on make all of them.
use Prim.Native.Nat.{◌+◌, ◌-◌}
use mathlib.Core.Path.{◌≡◌}
use lib.ListN.{length}
use Rattle.layout.specs.Sheet.{sheet_sets}
use Rattle.sets.specs.Shown.{sets_from, sets_in}
use Rattle.sheet.proofs.sets_size.Given as goal

abbrev pub invariant-loop-i : goal.invariant-loop-i
invariant-loop-i l = l.size + length (sheet_sets (sets_from l.sets l.i (l.sets.count - l.i))) ≡ length (sheet_sets (sets_in l.sets))
