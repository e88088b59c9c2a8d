use Prim.Native.Nat.{◌+◌}
use native.Mathlib.Omega.{arith}
use mathlib.Core.Path.{ap}
use lib.ListN.{length, get_or, length-append}
use Rattle.sets.specs.Stored.{past}
use Rattle.columns.specs.Cells.{set_text}
use Rattle.columns.proofs.Whole.{text_from, text_all, text_skip, text_next, text_end}
use Rattle.columns.proofs.sets_size.Goals as goal
use Rattle.columns.proofs.sets_size.Goals.{else-list-ne0, then-list-ne0}

pub loop-i-init : goal.loop-i-init
loop-i-init c = (omega (arith, ap length (text_all c.args.form c.args.sets.now c.requires)), omega arith)

pub overflow_add-size : goal.overflow_add-size
overflow_add-size c = record { fits = omega (arith, c.set_size-size.ensures.1, c.loop-i.invariant.1, c.loop-i-test.true, c.requires) }

pub loop-i-preserved : goal.loop-i-preserved
loop-i-preserved c =
    let f = c.args.form in
    let t = c.args.sets.now in
    let at = c.loop-i in
    let inside = c.loop-i-test.true in
    elim c.if-list-ne0.branch [
      | then-list-ne0 w ↦ (
        omega (
          arith,
          at.invariant.0,
          w.size-is,
          w.set_size-size.ensures.0,
          ap length (text_next f t at.i t.count w.at.ensures inside w.if-list-ne0.true),
          length-append (set_text w.at.result (get_or t.shown at.i past)) (text_from f t (at.i + 1) t.count),
        ),
        omega (arith, at.invariant.1, w.size-is, w.set_size-size.ensures.1),
      )
      | else-list-ne0 w ↦ (
        omega (arith, at.invariant.0, w.size-is, ap length (text_skip f t at.i t.count inside w.if-list-ne0.false)),
        omega (arith, at.invariant.1, w.size-is),
      )
    ]

pub returns : goal.returns
returns c =
    let at = c.loop-i in
    (omega (arith, at.invariant.0, ap length (text_end c.args.form c.args.sets.now at.i _ c.loop-i-test.false)), omega (arith, at.invariant.1, c.requires))
