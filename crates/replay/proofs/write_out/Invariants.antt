-- `replay::write_out` is safe and ends: the measure is what is left of the answer.
use Rattle.std.proofs.Common.{◌-◌, ◌≤◌, length}
use Rattle.replay.proofs.write_out.Given as goal

abbrev pub invariant-loop-done : goal.invariant-loop-done
invariant-loop-done g l = l.done ≤ length l.answer

abbrev pub decreases-loop-done : goal.decreases-loop-done
decreases-loop-done g l = length l.answer - l.done
