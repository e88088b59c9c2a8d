-- `input::nothing` meets its contract: it is the reading of no bytes.
use native.Mathlib.Omega.{arith}
use mathlib.Core.Path.{refl}
use Rattle.input.proofs.Laws.{reading_nothing}
use Rattle.input.proofs.nothing.Goals as goal

pub returns : goal.returns
returns c = record { read = reading_nothing _ c.empty.ensures; even = λ _. refl; within = omega arith }
