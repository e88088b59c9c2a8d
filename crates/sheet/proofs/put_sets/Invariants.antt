-- `sheet::put_sets` meets its contract: the sets from the present place on are what is left to write.
use Prim.Native.Nat.{◌-◌}
use Rattle.layout.specs.Sheet.{sheet_sets}
use Rattle.out.proofs.Pages.{Going}
use Rattle.sets.specs.Shown.{sets_from, sets_in}
use Rattle.sheet.proofs.put_sets.Given as goal

abbrev pub invariant-loop-i : goal.invariant-loop-i
invariant-loop-i l = Going l.initial.page (sheet_sets (sets_in l.sets)) l.page (sheet_sets (sets_from l.sets l.i (l.sets.count - l.i)))
