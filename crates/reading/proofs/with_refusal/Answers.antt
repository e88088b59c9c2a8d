-- `reading::with_refusal` meets its contract: one more where the outcome is not done.
use Prim.Native.Nat.{ℕ, ◌+◌}
use mathlib.Core.Path.{ap, ◌∙◌}
use mathlib.Core.Bool.{not}
use Rattle.rules.specs.Block.{bit}
use Rattle.reading.proofs.SameLaws.{same_done, byte_bit}
use Rattle.reading.proofs.with_refusal.Goals as goal

pub returns : goal.returns
returns c = ap (λ (k : ℕ). c.args.refused + k) (c.from.ensures ∙ byte_bit _ ∙ ap bit (c.ne.ensures ∙ ap not (same_done c.args.outcome)))
