use mathlib.Core.Path.{◌≡◌}
use lib.ListN.{take}
use Rattle.std.specs.List.{list_all}
use Rattle.lists.proofs.all_zero.Given as goal

abbrev pub invariant-loop-n : goal.invariant-loop-n
invariant-loop-n g l = l.zero ≡ list_all (λ n. g.T.PartialEq.eq n g.T.Number.ZERO) (take l.n-index l.n-items)
