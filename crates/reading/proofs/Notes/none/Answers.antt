-- `reading::Notes::none` meets its contract: the two are the same.
use mathlib.Core.Path.{refl}
use Rattle.reading.specs.Steps.{no_notes}
use Rattle.reading.proofs.Notes.none.Goals as goal

pub returns : goal.returns
unfolding no_notes
returns c = refl
