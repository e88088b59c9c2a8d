-- `sheet::number_size` meets its contract: the bytes counted and those of the groups that are left make all of them, and one.
use Prim.Native.Nat.{ℕ, suc, ◌+◌}
use mathlib.Core.Path.{◌≡◌}
use mathlib.Core.List.{List}
use lib.ListN.{length}
use Rattle.layout.specs.Sheet.{sheet_number}
use Rattle.sheet.proofs.Groups.{Grouped}
use Rattle.sheet.proofs.number_size.Given as goal

abbrev pub invariant-loop-q : goal.invariant-loop-q
invariant-loop-q l = (rest : List ℕ) × Grouped l.q rest × (l.size + length rest ≡ suc (length (sheet_number l.n)))

abbrev pub decreases-loop-q : goal.decreases-loop-q
decreases-loop-q l = l.q
