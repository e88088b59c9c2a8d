-- `rows::Rows::none` meets its contract: zeros.
use mathlib.Core.Path.{refl}
use Rattle.reading.specs.Gathered.{no_rows}
use Rattle.reading.proofs.rows.Rows.none.Goals as goal

pub returns : goal.returns
unfolding no_rows
returns c = refl
