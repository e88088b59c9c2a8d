-- `reading::Desk::of` meets its contract: each column is laid out.
use mathlib.Core.Path.{refl}
use Rattle.reading.proofs.Desk.of.Goals as goal

pub returns : goal.returns
returns c = record { shown = c.of.ensures; draft = c.of-2.ensures; same = refl }
