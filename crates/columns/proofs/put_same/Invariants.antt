-- `columns::put_same` meets its contract: the byte as often as is left is what is left to write.
use Prim.Native.Nat.{◌-◌}
use lib.ListN.{replicate}
use Rattle.out.proofs.Pages.{Going}
use Rattle.columns.proofs.put_same.Given as goal

abbrev pub invariant-loop : goal.invariant-loop
invariant-loop l = Going l.initial.page (replicate l.n l.b) l.page (replicate (l.n - l.counter) l.b)
