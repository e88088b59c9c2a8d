-- `columns::sets_size` meets its contract: what is added up and what is left to add make the whole.
use Prim.Native.Nat.{◌+◌, ◌*◌, ◌≤◌}
use mathlib.Core.Path.{◌≡◌}
use lib.ListN.{length}
use Rattle.sets.specs.Shown.{confirmed_sets_in}
use Rattle.columns.specs.Columns.{sets_text}
use Rattle.columns.proofs.Whole.{text_from}
use Rattle.columns.proofs.sets_size.Given as goal

abbrev pub invariant-loop-i : goal.invariant-loop-i
invariant-loop-i l =
    (l.size + length (text_from l.form l.sets l.i l.sets.count) ≡ length (sets_text l.form.csv l.form.numbered (confirmed_sets_in l.sets))) × (l.size ≤ l.i * 8122)
