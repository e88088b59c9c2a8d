use Rattle.sheet.proofs.Sets.{sets_start, sets_wrong, sets_next, sets_made}
use Rattle.sheet.proofs.Reader.sets.Goals as goal

pub loop-i-init : goal.loop-i-init
loop-i-init c = sets_start _ _ _ c.empty-sets.ensures _ c.none-totals.ensures

pub returns-in_err-set : goal.returns-in_err-set
returns-in_err-set c = sets_wrong _ _ _ _ _ _ _ c.loop-i.invariant c.loop-i-test.true c.in_err-set.ensures c.from_residual.ensures

pub loop-i-preserved : goal.loop-i-preserved
loop-i-preserved c = sets_next _ _ _ _ _ _ _ c.loop-i.invariant _ c.loop-i-test.true c.requires c.in_ok-set.ensures _ c.with-totals.ensures

pub returns : goal.returns
returns c = sets_made _ _ _ _ _ _ _ c.loop-i.invariant c.loop-i-test.false
