use mathlib.Core.Path.{sym}
use Rattle.out.proofs.Pages.{going_start, going_on, going_as, going_end}
use Rattle.columns.proofs.Whole.{text_all, text_skip, text_next, text_end}
use Rattle.columns.proofs.put_sets.Goals as goal
use Rattle.columns.proofs.put_sets.Goals.{else-set-ne0, then-set-ne0}

pub loop-k-init : goal.loop-k-init
loop-k-init c = going_as (sym (text_all c.args.form c.args.sets.now c.requires)) (going_start _ _)

pub loop-k-preserved : goal.loop-k-preserved
loop-k-preserved c =
    let f = c.args.form in
    let t = c.args.sets.now in
    let at = c.loop-k in
    let inside = c.loop-k-test.true in
    elim c.if-set-ne0.branch [
      | then-set-ne0 w ↦ rw w.page-is (going_on (text_next f t at.k t.count w.at.ensures inside w.if-set-ne0.true) at.invariant w.put_set.ensures)
      | else-set-ne0 w ↦ rw w.page-is (going_as (text_skip f t at.k t.count inside w.if-set-ne0.false) at.invariant)
    ]

pub returns : goal.returns
returns c = going_end (text_end c.args.form c.args.sets.now c.loop-k.k _ c.loop-k-test.false) c.loop-k.invariant
