use Rattle.sheet.proofs.Pairs.{list_start, list_wrong, list_next, list_end}
use Rattle.sheet.proofs.Reader.list.Goals as goal

pub loop-i-init : goal.loop-i-init
loop-i-init c = list_start _ _ _ _ _ c.empty-list.ensures

pub returns-in_err-kind : goal.returns-in_err-kind
returns-in_err-kind c =
    list_wrong _ _ _ _ _ _ _ c.loop-i.invariant c.loop-i-test.true c.pairs.ensures.pairs c.in_err-kind.ensures c.from_residual.ensures

pub loop-i-preserved : goal.loop-i-preserved
loop-i-preserved c =
    list_next _ _ _ _ _ _ _ c.loop-i.invariant _ _ c.loop-i-test.true c.requires c.pairs.ensures.pairs c.in_ok-kind.ensures

pub returns : goal.returns
returns c = list_end _ _ _ _ _ _ _ c.loop-i.invariant c.loop-i-test.false
