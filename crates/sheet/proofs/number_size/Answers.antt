use native.Mathlib.Omega.{arith}
use mathlib.Core.Path.{ap}
use lib.ListN.{length}
use Rattle.layout.specs.Sheet.{sheet_number}
use Rattle.sheet.proofs.Groups.{grouped_start, grouped_next, grouped_last, number_short}
use Rattle.sheet.proofs.number_size.Goals as goal

pub loop-q-init : goal.loop-q-init
loop-q-init c = (sheet_number c.args.n, grouped_start _ c.ranges.n.fits, omega arith)

pub overflow_add-size : goal.overflow_add-size
overflow_add-size c = omega (arith, c.loop-q.invariant.2, number_short c.args.n)

pub loop-q-preserved : goal.loop-q-preserved
loop-q-preserved c =
    let g = grouped_next _ _ c.loop-q.invariant.1 c.loop-q-test.true in
    (g.after, g.grouped, omega (arith, c.loop-q.invariant.2, ap length g.begins))

pub returns : goal.returns
returns c = omega (arith, c.loop-q.invariant.2, ap length (grouped_last _ _ c.loop-q.invariant.1 c.loop-q-test.false))
