-- `air::put_fig` meets its contract: the five bytes of its head, and the numbers.
use native.Mathlib.Omega.{arith}
use Rattle.rules.specs.Collecting.{key_width}
use Rattle.rules.proofs.TableRules.{width_most}
use Rattle.pieces.proofs.Cutting.{most_small}
use Rattle.out.proofs.Pages.{writes_then, writes_as}
use Rattle.air.specs.Parts.{piece_of}
use Rattle.air.proofs.Blocks.{numbers_few, fig_made}
use Rattle.air.proofs.put_fig.Goals as goal

pub overflow_mul-first : goal.overflow_mul-first
overflow_mul-first c = omega (arith, numbers_few c.args.head.key _ _ c.width_of-width.ensures c.requires.few)

pub overflow_add-first : goal.overflow_add-first
overflow_add-first c = omega (arith, numbers_few c.args.head.key _ _ c.width_of-width.ensures c.requires.few)

pub overflow_cast-first : goal.overflow_cast-first
overflow_cast-first c = omega (arith, numbers_few c.args.head.key _ _ c.width_of-width.ensures c.requires.few)

pub overflow_cast-first-5 : goal.overflow_cast-first-5
overflow_cast-first-5 c = omega (arith, c.requires.few, most_small (key_width c.args.head.key))

pub overflow_add-first-9 : goal.overflow_add-first-9
overflow_add-first-9 c = omega (arith, c.requires.few, c.requires.kind, most_small (key_width c.args.head.key))

pub put_numbers-requires : goal.put_numbers-requires
put_numbers-requires c = omega (arith, c.width_of-width.ensures, width_most c.args.head.key)

pub returns : goal.returns
returns c =
    writes_as
    (fig_made c.args.head.key c.args.head.on (piece_of c.args.piece) _ _ _ c.width_of-width.ensures c.from-more.ensures c.from-state.ensures)
    (writes_then c.put_bytes.ensures c.put_numbers.ensures)
