-- `air::count_all` meets its contract: the pieces counted and the sets from the present place on make the whole output.
use Prim.Native.Nat.{◌+◌, ◌-◌, ◌*◌, ◌≤◌}
use mathlib.Core.Path.{◌≡◌}
use lib.ListN.{length}
use Rattle.pieces.specs.Air.{all_blocks}
use Rattle.sets.specs.Shown.{sets_from}
use Rattle.air.proofs.count_all.Given as goal

abbrev pub invariant-loop-i : goal.invariant-loop-i
invariant-loop-i l =
    record {
      few : l.n ≤ 130 * l.i;
      rest : 32 * l.n + length (all_blocks (sets_from l.sets l.i (l.count - l.i))) ≡ length (all_blocks (sets_from l.sets 0 l.count));
    }
