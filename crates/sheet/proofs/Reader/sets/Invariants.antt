-- `Reader::sets` meets its contract: the sets passed are stored, and what is still to be read is what was to be read.
use Rattle.sheet.proofs.Sets.{Filled}
use Rattle.sheet.proofs.Reader.sets.Given as goal

abbrev pub invariant-loop-i : goal.invariant-loop-i
invariant-loop-i l = Filled l.count l.initial.self l.self l.sets l.totals l.last l.i
