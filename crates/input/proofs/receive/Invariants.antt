-- `input::receive` meets its contract: after every turn there are bytes of which the state is the reading, at most 32 KiB for each
-- turn done.
use Rattle.std.specs.Prelude.{true}
use Rattle.std.proofs.Common.{◌*◌}
use Rattle.input.specs.Reading.{ReadOn}
use Rattle.input.proofs.receive.Given as goal

abbrev pub invariant-loop-turn : goal.invariant-loop-turn
invariant-loop-turn g l = ReadOn l.received true (32768 * l.turn)
