use Prim.Native.Nat.{◌+◌, ◌-◌}
use native.Mathlib.Omega.{arith}
use mathlib.Core.Path.{ap}
use mathlib.Core.Bool.{false}
use lib.ListN.{length, length-append, get_or}
use Rattle.pieces.specs.Air.{set_blocks, all_blocks}
use Rattle.sets.specs.Stored.{EachHolds, past}
use Rattle.sets.specs.Shown.{shown_at, sets_from}
use Rattle.air.proofs.Output.{set_size, blocks_next, blocks_end, blocks_all}
use Rattle.air.proofs.count_all.Goals as goal

pub loop-i-init : goal.loop-i-init
loop-i-init c = record { few = omega arith; rest = omega (arith, ap length (blocks_all c.args.sets.now c.args.count)) }

pub piece_count-n-requires : goal.piece_count-n-requires
unfolding EachHolds
piece_count-n-requires c = c.requires.1 c.loop-i.i (omega arith)

pub loop-i-preserved : goal.loop-i-preserved
unfolding EachHolds
loop-i-preserved c =
    let a = c.args in
    let t = a.sets.now in
    let at = c.loop-i in
    let h = c.loop-i-test.true in
    record {
      few = omega (arith, at.invariant.few, c.piece_count-n.ensures.1);
      rest =
          omega (
            arith,
            at.invariant.rest,
            c.piece_count-n.ensures.0,
            ap length (blocks_next t at.i a.count (c.requires.1 at.i (omega (arith, h, c.requires.0))) h),
            length-append (set_blocks (shown_at t at.i)) (all_blocks (sets_from t (at.i + 1) (a.count - (at.i + 1)))),
            set_size (get_or t.keys at.i 0) (get_or t.on at.i false) (get_or t.shown at.i past),
          );
    }

pub returns : goal.returns
returns c =
    let at = c.loop-i in
    let a = c.args in (
      omega (arith, at.invariant.rest, ap length (blocks_end a.sets.now at.i a.count c.loop-i-test.false)),
      omega (arith, at.invariant.few, c.requires.0),
    )
