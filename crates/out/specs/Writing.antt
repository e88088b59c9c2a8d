-- An output into a lent buffer (document 01, Numbered outcomes): 8 where it is shorter than needed, and then nothing is written.
use Rattle.std.specs.Prelude.{ℕ, cond, List, length, ltb}
use Rattle.rules.specs.declared.Outcome.{Outcome}
use Rattle.rules.specs.declared.Outcome.TheVariants.{Done, ShortBuffer}
use Rattle.rules.specs.Outcomes.{overwritten}

-- the answer, with the buffer as it is then
pub record Written : Type 0 where
  pub outcome : Outcome
  pub size : ℕ
  pub buffer : List ℕ

unfoldable pub written_to : List ℕ → List ℕ → Written
written_to out old =
    cond (ltb (length old) (length out))
    (record { outcome = ShortBuffer; size = 0; buffer = old })
    (record { outcome = Done; size = length out; buffer = overwritten out old })
