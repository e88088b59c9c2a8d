use native.Mathlib.Omega.{arith}
use mathlib.Core.Path.{ap}
use lib.ListN.{length}
use Rattle.layout.specs.Sheet.{sheet_sets}
use Rattle.sets.proofs.ShownLaws.{sets_skip, sets_end, sets_all}
use Rattle.sheet.proofs.Writes.{size_sets, list_short, count_short, sets_short}
use Rattle.sheet.proofs.sets_size.Goals as goal
use Rattle.sheet.proofs.sets_size.Goals.{else-list-ne0, then-list-ne0}

pub loop-i-init : goal.loop-i-init
loop-i-init c =
    omega (arith, ap (λ ss. length (sheet_sets ss)) (sets_all c.args.sets {n = c.args.sets.count} (omega (arith, count_short _ c.requires))))

pub offset_bounds-sets-i : goal.offset_bounds-sets-i
offset_bounds-sets-i c = omega (arith, count_short _ c.requires)

pub bounds-sets-i : goal.bounds-sets-i
bounds-sets-i c = omega (arith, count_short _ c.requires)

pub set_size-size-requires : goal.set_size-size-requires
set_size-size-requires c = list_short c.args.sets _ c.requires c.loop-i-test.true

pub overflow_add-size : goal.overflow_add-size
overflow_add-size c =
    let t = c.args.sets in
    let s = c.requires in
    omega (
      arith,
      size_sets t c.loop-i.i t.count c.loop-i-test.true c.if-list-ne0.true,
      c.loop-i.invariant,
      c.set_size-size.ensures,
      sets_short t s,
    )

pub loop-i-preserved : goal.loop-i-preserved
loop-i-preserved c =
    let t = c.args.sets in
    let at = c.loop-i in
    let h = c.loop-i-test.true in
    elim c.if-list-ne0.branch [
      | then-list-ne0 w ↦ omega (arith, at.invariant, size_sets t at.i t.count h w.if-list-ne0.true, w.set_size-size.ensures)
      | else-list-ne0 w ↦ omega (arith, at.invariant, ap (λ ss. length (sheet_sets ss)) (sets_skip t at.i t.count h w.if-list-ne0.false))
    ]

pub returns : goal.returns
unfolding sheet_sets
returns c =
    let t = c.args.sets in
    omega (arith, c.loop-i.invariant, ap (λ ss. length (sheet_sets ss)) (sets_end t c.loop-i.i t.count c.loop-i-test.false))
