use native.Mathlib.Omega.{arith}
use mathlib.Core.Path.{sym}
use Rattle.sets.specs.Stored.{EachHolds}
use Rattle.out.proofs.Pages.{going_start, going_as, going_on, going_end}
use Rattle.air.proofs.Output.{blocks_next, blocks_end, blocks_all}
use Rattle.air.proofs.put_all.Goals as goal

pub loop-i-init : goal.loop-i-init
loop-i-init c = going_as (sym (blocks_all c.args.sets.now c.args.count)) (going_start _ _)

pub put_set-requires : goal.put_set-requires
unfolding EachHolds
put_set-requires c = c.requires.1 c.loop-i.i (omega arith)

pub loop-i-preserved : goal.loop-i-preserved
unfolding EachHolds
loop-i-preserved c =
    let a = c.args in
    let h = c.loop-i-test.true in
    going_on (blocks_next a.sets.now c.loop-i.i a.count (c.requires.1 c.loop-i.i (omega (arith, h, c.requires.0))) h) c.loop-i.invariant c.put_set.ensures

pub returns : goal.returns
returns c =
    let a = c.args in
    going_end (blocks_end a.sets.now c.loop-i.i a.count c.loop-i-test.false) c.loop-i.invariant
