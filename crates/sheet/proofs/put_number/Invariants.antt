-- `sheet::put_number` meets its contract: the groups that are left are what is left to write.
use Prim.Native.Nat.{ℕ}
use mathlib.Core.List.{List}
use Rattle.layout.specs.Sheet.{sheet_number}
use Rattle.out.proofs.Pages.{Going}
use Rattle.sheet.proofs.Groups.{Grouped}
use Rattle.sheet.proofs.put_number.Given as goal

abbrev pub invariant-loop-q : goal.invariant-loop-q
invariant-loop-q l = (rest : List ℕ) × Grouped l.q rest × Going l.initial.page (sheet_number l.n) l.page rest

abbrev pub decreases-loop-q : goal.decreases-loop-q
decreases-loop-q l = l.q
