use mathlib.Core.Path.{sym}
use Rattle.out.proofs.Pages.{going_start, going_on, going_as, going_end}
use Rattle.text.proofs.SetLaws.{lines_all, lines_skip, lines_next, lines_end}
use Rattle.text.proofs.put_lines.Goals as goal
use Rattle.text.proofs.put_lines.Goals.{else-set-ne0, then-set-ne0}

pub loop-k-init : goal.loop-k-init
loop-k-init c = going_as (sym (lines_all c.args.numbered c.args.sets.now c.requires)) (going_start _ _)

pub loop-k-preserved : goal.loop-k-preserved
loop-k-preserved c =
    let numbered = c.args.numbered in
    let t = c.args.sets.now in
    let at = c.loop-k in
    let inside = c.loop-k-test.true in
    elim c.if-set-ne0.branch [
      | then-set-ne0 w ↦ rw w.page-is (going_on (lines_next numbered t at.k t.count w.at.ensures inside w.if-set-ne0.true) at.invariant w.put_line.ensures)
      | else-set-ne0 w ↦ rw w.page-is (going_as (lines_skip numbered t at.k t.count inside w.if-set-ne0.false) at.invariant)
    ]

pub returns : goal.returns
returns c = going_end (lines_end c.args.numbered c.args.sets.now c.loop-k.k _ c.loop-k-test.false) c.loop-k.invariant
