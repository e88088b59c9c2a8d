use mathlib.Core.Path.{refl}
use Rattle.layout.specs.Sheet.{sheet_number}
use Rattle.out.proofs.Pages.{going_start, going_on, going_end}
use Rattle.sheet.proofs.Groups.{grouped_start, grouped_next, grouped_last}
use Rattle.sheet.proofs.put_number.Goals as goal

pub loop-q-init : goal.loop-q-init
loop-q-init c = (sheet_number c.args.n, grouped_start _ c.ranges.n.fits, going_start _ _)

pub loop-q-preserved : goal.loop-q-preserved
loop-q-preserved c =
    let inv = c.loop-q.invariant in
    let g = grouped_next _ _ inv.1 c.loop-q-test.true in
    (g.after, g.grouped, going_on g.begins inv.2 c.put.ensures)

pub returns : goal.returns
returns c =
    let inv = c.loop-q.invariant in
    going_end refl (going_on (grouped_last _ _ inv.1 c.loop-q-test.false) inv.2 c.put-2.ensures)
