-- `air::put_numbers` meets its contract: the numbers from the present one on are what is left to write.
use lib.ListN.{drop}
use Rattle.pieces.specs.Air.{all_bytes}
use Rattle.out.proofs.Pages.{Going}
use Rattle.air.proofs.put_numbers.Given as goal

abbrev pub invariant-loop-n : goal.invariant-loop-n
invariant-loop-n l = Going l.initial.page (all_bytes l.width l.numbers) l.page (all_bytes l.width (drop l.n-index l.numbers))
