-- `lists::Pairs::first` meets its contract: as many of both as there are, but no more than asked for.
use native.Mathlib.Omega.{arith}
use Rattle.lists.proofs.PairLaws.{length_paired, paired_first}
use Rattle.lists.proofs.Pairs.first.Goals as goal

pub returns-clause-pairs : goal.returns-clause-pairs
returns-clause-pairs c =
    paired_first c.args.kinds.now c.args.numbers.now c.args.len c.min-end.result
    (omega (arith, length_paired c.args.kinds.now c.args.numbers.now))
