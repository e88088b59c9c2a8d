-- `sets::Sets::empty` meets its contract: it is the table of no entries around the list that is none.
use mathlib.Core.Path.{ap}
use mathlib.Core.Bool.{false}
use lib.ListN.{replicate}
use Rattle.rules.specs.Collecting.{most_keys}
use Rattle.rules.specs.Arrays.{padded}
use Rattle.lists.specs.declared.IdList.{IdList}
use Rattle.sets.specs.declared.Sets.{Sets}
use Rattle.sets.specs.Stored.{store_sets}
use Rattle.sets.proofs.Sets.empty.Goals as goal

-- no entries, with this list in every place
abbrev around : IdList → Sets
around l = record { count = 0; keys = replicate most_keys 0; on = replicate most_keys false; confirmed = replicate most_keys 0; shown = replicate most_keys l; draft = replicate most_keys l }

pub returns : goal.returns
unfolding store_sets padded
returns c = ap around c.empty-none.ensures
