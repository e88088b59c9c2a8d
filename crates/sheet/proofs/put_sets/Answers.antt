use native.Mathlib.Omega.{arith}
use mathlib.Core.Path.{sym, ap}
use Rattle.layout.specs.Sheet.{sheet_sets}
use Rattle.sets.proofs.ShownLaws.{sets_skip, sets_end, sets_all}
use Rattle.out.proofs.Pages.{going_start, going_on, going_as, going_end}
use Rattle.sheet.proofs.Writes.{sets_here, list_short, count_short}
use Rattle.sheet.proofs.put_sets.Goals as goal
use Rattle.sheet.proofs.put_sets.Goals.{else-list-ne0, then-list-ne0}

pub loop-i-init : goal.loop-i-init
loop-i-init c =
    let a = c.args in
    going_as (sym (ap sheet_sets (sets_all a.sets {n = a.sets.count} (omega (arith, count_short _ c.requires))))) (going_start _ _)

pub offset_bounds-sets-i : goal.offset_bounds-sets-i
offset_bounds-sets-i c = omega (arith, count_short _ c.requires)

pub bounds-sets-i : goal.bounds-sets-i
bounds-sets-i c = omega (arith, count_short _ c.requires)

pub put_set-requires : goal.put_set-requires
put_set-requires c = list_short c.args.sets _ c.requires c.loop-i-test.true

pub loop-i-preserved : goal.loop-i-preserved
loop-i-preserved c =
    let t = c.args.sets in
    let at = c.loop-i in
    let h = c.loop-i-test.true in
    elim c.if-list-ne0.branch [
      | then-list-ne0 w ↦ rw w.page-is (going_on (sets_here t at.i t.count h w.if-list-ne0.true) at.invariant w.put_set.ensures)
      | else-list-ne0 w ↦ rw w.page-is (going_as (ap sheet_sets (sets_skip t at.i t.count h w.if-list-ne0.false)) at.invariant)
    ]

pub returns : goal.returns
unfolding sheet_sets
returns c =
    let t = c.args.sets in
    going_end (ap sheet_sets (sets_end t c.loop-i.i t.count c.loop-i-test.false)) c.loop-i.invariant
