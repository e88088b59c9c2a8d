-- `reading::Desk::sets` meets its contract: the lists gathered.
use mathlib.Core.Path.{ap₂}
use Rattle.sets.specs.Stored.{with_lists}
use Rattle.reading.specs.Desks.{sets_of}
use Rattle.reading.proofs.Desk.sets.Goals as goal

pub returns : goal.returns
unfolding sets_of
returns c = let d = c.args.self.now in ap₂ (with_lists d.laid d.on d.confirmed) c.gather.ensures c.gather-2.ensures
