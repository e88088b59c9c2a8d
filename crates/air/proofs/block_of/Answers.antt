-- `air::block_of` meets its contract.
use borrow.Author.Rules.{rules}
use Rattle.out.proofs.Pages.{writes_then, opened_puts}
use Rattle.pieces.proofs.BlockBack.{fig_length}
use Rattle.air.specs.Parts.{piece_of}
use Rattle.air.proofs.Blocks.{block_made, block_room}
use Rattle.air.proofs.block_of.Goals as goal

pub slice_bounds-check_of-end : goal.slice_bounds-check_of-end
slice_bounds-check_of-end c =
    block_room _ (fig_length c.args.head.key c.args.head.on (piece_of c.args.piece) c.requires.few)
    (opened_puts c.over-page.ensures.over (writes_then c.put_fig.ensures c.put.ensures)) (search rules)

pub returns : goal.returns
returns c =
    block_made _ (fig_length c.args.head.key c.args.head.on (piece_of c.args.piece) c.requires.few)
    (opened_puts c.over-page.ensures.over (writes_then c.put_fig.ensures c.put.ensures)) (search rules) c.check_of-check.ensures.0
