use native.Mathlib.Omega.{arith}
use mathlib.Core.Path.{refl, sym, ap, ◌∙◌}
use lib.ListN.{length, length-set}
use Rattle.rules.specs.Family.{member}
use Rattle.rules.specs.Collecting.{linkage}
use Rattle.lists.proofs.GrownLaws.{grown_first}
use Rattle.reading.proofs.RowLaws.{row_from, row_there, row_more, row_full, append_fits, append_not}
use Rattle.reading.proofs.rows.append.Goals as goal
use Rattle.reading.proofs.rows.append.Goals.{else-not-has, then-not-has+else-len-ge-MOST}

pub loop-i-init : goal.loop-i-init
loop-i-init c = record { fits = c.requires.2; numbers = c.requires.0; kinds = c.requires.1; rest = grown_first _ _ _ _ }

pub returns-then-len-ge-MOST : goal.returns-then-len-ge-MOST
returns-then-len-ge-MOST c =
    let v = c.loop-i.invariant in
    append_not _ _ _ _ _ _ _ refl c.names_with-named.ensures _ _
    (sym (row_full _ _ _ _ _ _ _ _ v.numbers v.kinds v.fits _ _ _ c.identifier-id.ensures c.kind-kind.ensures c.number-number.ensures _ (c.has.ensures ∙ ap (member linkage _) c.first.ensures.pairs) c.if-not-has.true c.loop-i-test.true c.if-len-ge-MOST.true)
    ∙ v.rest)

pub loop-i-preserved : goal.loop-i-preserved
loop-i-preserved c =
    let v = c.loop-i.invariant in
    elim c.if-not-has.branch [
      | then-not-has+else-len-ge-MOST w ↦ record {
        fits = omega arith;
        numbers = ap length w.numbers-is ∙ simp length-set v.numbers;
        kinds = ap length w.kinds-is ∙ simp length-set v.kinds;
        rest = row_from _ _ _ w.numbers-is w.kinds-is w.len-is (row_more _ _ _ _ _ _ _ _ v.numbers v.kinds v.fits _ _ _ c.identifier-id.ensures c.kind-kind.ensures c.number-number.ensures _ (c.has.ensures ∙ ap (member linkage _) c.first.ensures.pairs) (w.if-not-has.true) c.loop-i-test.true w.if-len-ge-MOST.false ∙ v.rest);
      }
      | else-not-has w ↦ record {
        fits = omega arith;
        numbers = ap length w.numbers-is ∙ v.numbers;
        kinds = ap length w.kinds-is ∙ v.kinds;
        rest = row_from _ _ _ w.numbers-is w.kinds-is w.len-is (row_there _ _ _ _ _ _ _ _ v.numbers v.kinds v.fits _ _ _ c.identifier-id.ensures c.kind-kind.ensures c.number-number.ensures _ (c.has.ensures ∙ ap (member linkage _) c.first.ensures.pairs) (w.if-not-has.false) c.loop-i-test.true ∙ v.rest);
      }
    ]

pub returns : goal.returns
returns c =
    let l = c.loop-i in
    append_fits _ _ _ _ _ _ _ refl c.names_with-named.ensures l.i l.len l.numbers l.kinds l.invariant.rest (omega arith)
