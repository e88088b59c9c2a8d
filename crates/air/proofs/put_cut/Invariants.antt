-- `air::put_cut` meets its contract: the pieces still to come are what is left to write, and a block has room for each.
use Rattle.pieces.specs.Air.{cut, blocks_of}
use Rattle.rules.proofs.Basics.{Every}
use Rattle.sets.specs.Shown.{set_in}
use Rattle.out.proofs.Pages.{Going}
use Rattle.air.specs.Parts.{to_come, Fitting}
use Rattle.air.proofs.put_cut.Given as goal

abbrev pub invariant-loop-piece : goal.invariant-loop-piece
invariant-loop-piece l =
    record {
      writes : Going l.initial.page (blocks_of l.head.key l.head.on (cut l.head.key (set_in l.list).items)) l.page (blocks_of l.head.key l.head.on (to_come l.piece-iterator));
      fit : Every (Fitting l.head.key) (to_come l.piece-iterator);
    }
