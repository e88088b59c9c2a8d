use Prim.Native.Nat.{◌+◌}
use native.Mathlib.Omega.{arith}
use mathlib.Core.Path.{ap}
use lib.ListN.{length, get_or, length-append}
use Rattle.sets.specs.Stored.{past}
use Rattle.text.specs.Lines.{line_in}
use Rattle.text.proofs.SetLaws.{lines_from, lines_all, lines_skip, lines_next, lines_end}
use Rattle.text.proofs.lines_size.Goals as goal
use Rattle.text.proofs.lines_size.Goals.{else-list-ne0, then-list-ne0}

pub loop-i-init : goal.loop-i-init
loop-i-init c = (omega (arith, ap length (lines_all c.args.numbered c.args.sets.now c.requires)), omega arith)

pub overflow_add-size : goal.overflow_add-size
overflow_add-size c = record { fits = omega (arith, c.line_size-size.ensures.1, c.loop-i.invariant.1, c.loop-i-test.true, c.requires) }

pub loop-i-preserved : goal.loop-i-preserved
loop-i-preserved c =
    let numbered = c.args.numbered in
    let t = c.args.sets.now in
    let at = c.loop-i in
    let inside = c.loop-i-test.true in
    elim c.if-list-ne0.branch [
      | then-list-ne0 w ↦ (
        omega (
          arith,
          at.invariant.0,
          w.size-is,
          w.line_size-size.ensures.0,
          ap length (lines_next numbered t at.i t.count w.at.ensures inside w.if-list-ne0.true),
          length-append (line_in w.at.result (get_or t.shown at.i past)) (lines_from numbered t (at.i + 1) t.count),
        ),
        omega (arith, at.invariant.1, w.size-is, w.line_size-size.ensures.1),
      )
      | else-list-ne0 w ↦ (
        omega (arith, at.invariant.0, w.size-is, ap length (lines_skip numbered t at.i t.count inside w.if-list-ne0.false)),
        omega (arith, at.invariant.1, w.size-is),
      )
    ]

pub returns : goal.returns
returns c =
    let at = c.loop-i in
    (omega (arith, at.invariant.0, ap length (lines_end c.args.numbered c.args.sets.now at.i _ c.loop-i-test.false)), omega (arith, at.invariant.1, c.requires))
