-- `block::judge_figs` meets its contract. The loop's invariant: the answer to the block's FIGs is that from here on. The
-- measure is what is left of the block's data.
-- Assumes nothing.
use Prim.Native.Nat.{◌-◌}
use Rattle.block.proofs.Loops.{FigsSoFar}
use Rattle.block.proofs.judge_figs.Given as goal

abbrev pub invariant-loop-kind : goal.invariant-loop-kind
invariant-loop-kind l = FigsSoFar l.fib l.found l.cursor.at

abbrev pub decreases-loop-kind : goal.decreases-loop-kind
decreases-loop-kind l = 30 - l.cursor.at
