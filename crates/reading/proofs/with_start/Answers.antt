-- `reading::with_start` meets its contract: one more where the note is that of a start without room.
use Prim.Native.Nat.{ℕ, ◌+◌}
use mathlib.Core.Path.{ap, ◌∙◌}
use Rattle.rules.specs.Block.{bit}
use Rattle.reading.proofs.SameLaws.{same_full, byte_bit}
use Rattle.reading.proofs.with_start.Goals as goal

pub returns : goal.returns
returns c = ap (λ (k : ℕ). c.args.full + k) (c.from.ensures ∙ byte_bit _ ∙ ap bit (c.eq.ensures ∙ same_full c.args.note))
