-- `air::put_all` meets its contract: the blocks of the sets from the present place on are what is left to write.
use Prim.Native.Nat.{◌-◌}
use Rattle.pieces.specs.Air.{all_blocks}
use Rattle.sets.specs.Shown.{sets_from}
use Rattle.out.proofs.Pages.{Going}
use Rattle.air.proofs.put_all.Given as goal

abbrev pub invariant-loop-i : goal.invariant-loop-i
invariant-loop-i l = Going l.initial.page (all_blocks (sets_from l.sets 0 l.count)) l.page (all_blocks (sets_from l.sets l.i (l.count - l.i)))
