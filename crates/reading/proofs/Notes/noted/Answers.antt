-- `reading::Notes::noted` meets its contract: one store and the count.
use mathlib.Core.Path.{refl}
use Rattle.reading.specs.Steps.{noted_at}
use Rattle.reading.proofs.Notes.noted.Goals as goal

pub returns : goal.returns
unfolding noted_at
returns c = refl
