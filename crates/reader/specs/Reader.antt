-- What a step of a reader answers, and where it leaves the reader.
use Rattle.std.specs.Prelude.{ℕ, ◌≡◌}
use Rattle.figs.specs.declared.FigStep.{FigStep}
use Rattle.figs.specs.declared.FigStep.TheVariants.{Fig, End, Wrong}
use Rattle.figs.specs.Figs.{step_at}
use Rattle.reader.specs.declared.FigReader.{FigReader}

-- the place after what was found at a place: past a FIG, and the same at the end and at a wrong FIG
unfoldable pub place_after : ℕ → FigStep → ℕ
place_after at (Fig kind start stop next) = next.at
place_after at End = at
place_after at Wrong = at

-- a step from the reader r that answers found and leaves the reader r': found is what stands at r's place of r's block, r'
-- has the same slice, and its place is the one after what was found
pub record Stepped (r : FigReader) (found : FigStep) (r' : FigReader) : Type 0 where
  pub finds : found ≡ step_at r.fib.now r.at
  pub keeps : r'.fib ≡ r.fib
  pub moves : r'.at ≡ place_after r.at found
