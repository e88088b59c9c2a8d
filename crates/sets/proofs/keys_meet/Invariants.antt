-- `sets::keys_meet` meets its contract: the keys from the present one on, after the last one passed, answer for all of them.
use mathlib.Core.Path.{◌≡◌}
use lib.ListN.{drop}
use Rattle.sets.specs.Places.{keys_meet}
use Rattle.sets.proofs.keys_meet.Given as goal

abbrev pub invariant-loop-key : goal.invariant-loop-key
invariant-loop-key l = keys_meet l.last (drop l.key-index l.keys) ≡ keys_meet 0 l.keys
