-- `text::lines_size` meets its contract: what is added up and what is left to add make the whole.
use Prim.Native.Nat.{◌+◌, ◌*◌, ◌≤◌}
use mathlib.Core.Path.{◌≡◌}
use lib.ListN.{length}
use Rattle.sets.specs.Shown.{confirmed_sets_in}
use Rattle.text.specs.Lines.{lines_in}
use Rattle.text.proofs.SetLaws.{lines_from}
use Rattle.text.proofs.lines_size.Given as goal

abbrev pub invariant-loop-i : goal.invariant-loop-i
invariant-loop-i l =
    (l.size + length (lines_from l.numbered l.sets l.i l.sets.count) ≡ length (lines_in l.numbered (confirmed_sets_in l.sets))) × (l.size ≤ l.i * 1342)
