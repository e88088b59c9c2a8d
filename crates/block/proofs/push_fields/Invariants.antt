-- `block::push_fields` meets its contract. The loop's invariant: the answer from before the body is that from here, whatever
-- comes after the body. The measure is what is left of the body.
-- Assumes nothing.
use Prim.Native.Nat.{◌-◌}
use Rattle.block.proofs.Loops.{FieldsSoFar}
use Rattle.block.proofs.push_fields.Given as goal

abbrev pub invariant-loop-spots : goal.invariant-loop-spots
invariant-loop-spots l = FieldsSoFar l.fib l.start l.end l.initial.fault l.initial.spots l.fault l.spots l.at

abbrev pub decreases-loop-spots : goal.decreases-loop-spots
decreases-loop-spots l = l.end - l.start - l.at
