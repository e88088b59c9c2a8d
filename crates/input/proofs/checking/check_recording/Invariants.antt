-- `checking::check_recording` meets its contract: after every turn there are bytes of which the state is the reading, with so many
-- blocks refused, at most 32 KiB for each turn done.
use Rattle.std.specs.Prelude.{true}
use Rattle.std.proofs.Common.{◌*◌}
use Rattle.input.specs.Checking.{CheckedOn}
use Rattle.input.proofs.checking.check_recording.Given as goal

abbrev pub invariant-loop-turn : goal.invariant-loop-turn
invariant-loop-turn g l = CheckedOn l.checked true (32768 * l.turn)
