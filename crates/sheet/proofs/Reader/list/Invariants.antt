-- `Reader::list` meets its contract: the identifiers passed make the list, and what is still to be read is what was to be read.
use Rattle.sheet.proofs.Pairs.{Gathered}
use Rattle.sheet.proofs.Reader.list.Given as goal

abbrev pub invariant-loop-i : goal.invariant-loop-i
invariant-loop-i l = Gathered l.key l.named l.count l.initial.self l.self l.list l.i
