-- `Reader::number` meets its contract: what is still to be read from the present byte on is what was to be read.
use Rattle.sheet.proofs.Numbers.{Grouping}
use Rattle.sheet.proofs.Reader.number.Given as goal

abbrev pub invariant-loop-i : goal.invariant-loop-i
invariant-loop-i l = Grouping l.initial.self l.self l.i l.scale l.value
