-- `out::decimal_size` meets its contract: the digits counted and those of what is left are the number's, and one more.
use Prim.Native.Nat.{◌+◌, ◌^◌, ◌<◌}
use mathlib.Core.Path.{◌≡◌}
use lib.ListN.{length}
use Rattle.out.specs.Text.{decimal}
use Rattle.out.proofs.decimal_size.Given as goal

abbrev pub invariant-loop-q : goal.invariant-loop-q
invariant-loop-q l = (l.q < 2 ^ 64) × (l.d + length (decimal l.q) ≡ 1 + length (decimal l.n))

abbrev pub decreases-loop-q : goal.decreases-loop-q
decreases-loop-q l = l.q
