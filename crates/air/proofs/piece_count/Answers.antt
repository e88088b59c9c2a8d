-- `air::piece_count` meets its contract: the pieces that came are those of the identifiers, and each dead link is one more.
use native.Mathlib.Omega.{arith}
use mathlib.Core.Logic.{inl}
use mathlib.Core.Path.{ap, ◌∙◌}
use lib.ListN.{length}
use Rattle.std.specs.Int.{from_bool}
use Rattle.rules.proofs.Basics.{bit_small}
use Rattle.air.proofs.Blocks.{bit_from}
use Rattle.air.proofs.Sets.{pieces_counted, set_few, all_came}
use Rattle.air.proofs.piece_count.Goals as goal

pub count-requires-clause-fits : goal.count-requires-clause-fits
count-requires-clause-fits c = inl (omega (arith, ap length c.pieces_of.ensures.all, set_few c.args.key c.args.list.now c.requires))

pub overflow_add-result : goal.overflow_add-result
overflow_add-result c =
    let came = all_came c.args.key c.args.list.now c.pieces_of.result c.count.result c.requires c.pieces_of.ensures.all c.count.ensures.ran in
    let rds = bit_small c.is_dead-rds.result in
    omega (arith, came.1, c.from.ensures, bit_from c.is_dead-rds.result)

pub overflow_add-result-2 : goal.overflow_add-result-2
overflow_add-result-2 c =
    let came = all_came c.args.key c.args.list.now c.pieces_of.result c.count.result c.requires c.pieces_of.ensures.all c.count.ensures.ran in
    let rds = bit_small c.is_dead-rds.result in
    let drm = bit_small c.is_dead-drm.result in
    omega (arith, came.1, c.from.ensures, c.from-2.ensures, bit_from c.is_dead-rds.result, bit_from c.is_dead-drm.result)

pub returns : goal.returns
returns c =
    let came = all_came c.args.key c.args.list.now c.pieces_of.result c.count.result c.requires c.pieces_of.ensures.all c.count.ensures.ran in
    let rds = bit_small c.is_dead-rds.result in
    let drm = bit_small c.is_dead-drm.result in (
      pieces_counted c.args.key c.args.list.now _ _ _ _ c.pairs-pairs.ensures.pairs came.0 (c.from.ensures ∙ ap from_bool c.is_dead-rds.ensures)
          (c.from-2.ensures ∙ ap from_bool c.is_dead-drm.ensures),
      omega (arith, came.1, c.from.ensures, c.from-2.ensures, bit_from c.is_dead-rds.result, bit_from c.is_dead-drm.result),
    )
