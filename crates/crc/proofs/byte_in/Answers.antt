-- `crc::byte_in` meets its contract: byte_at_once of proofs/Register.antt, whose eight moves are twice four. Assumes nothing.
use mathlib.Core.Path.{ap, ◌∙◌}
use mathlib.Core.Bool.{Bool, false}
use mathlib.Core.List.{List}
use lib.ListN.{replicate}
use Rattle.rules.specs.Block.{shifts}
use Rattle.crc.proofs.Register.{byte_at_once}
use Rattle.crc.proofs.byte_in.Goals as goal

pub returns : goal.returns
unfolding shifts
returns c =
    c.up_four.ensures ∙ ap (λ (x : List Bool). shifts x (replicate 4 false)) c.up_four-x.ensures
    ∙ rw c.from.ensures (byte_at_once c.args.r c.args.b)
