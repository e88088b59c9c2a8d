-- `totals::Totals::added_up` meets its contract: what is added up is the totals from the present entry on.
use Prim.Native.Nat.{◌-◌}
use mathlib.Core.Path.{◌≡◌}
use Rattle.totals.specs.Kept.{totals_from}
use Rattle.totals.proofs.Totals.added_up.Given as goal

abbrev pub invariant-loop-k : goal.invariant-loop-k
invariant-loop-k l = l.totals ≡ totals_from l.sets l.k (l.initial.k - l.k)
