-- `lists::Pairs::all_differ` meets its contract: the pairs from the present place on answer for all of them.
use Rattle.lists.proofs.PairLaws.{Differ}
use Rattle.lists.proofs.Pairs.all_differ.Given as goal

abbrev pub invariant-loop-i : goal.invariant-loop-i
invariant-loop-i l = Differ l.self.kinds.now l.self.numbers.now 0 l.i
