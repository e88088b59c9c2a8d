-- `sheet::put_pairs` meets its contract: the identifiers that are left are what is left to write.
use lib.ListN.{drop}
use Rattle.layout.specs.Sheet.{sheet_pairs}
use Rattle.out.proofs.Pages.{Going}
use Rattle.sheet.proofs.Writes.{pairs_of}
use Rattle.sheet.proofs.put_pairs.Given as goal

abbrev pub invariant-loop-i : goal.invariant-loop-i
invariant-loop-i l = Going l.initial.page (sheet_pairs (pairs_of l.list)) l.page (sheet_pairs (drop l.i (pairs_of l.list)))
