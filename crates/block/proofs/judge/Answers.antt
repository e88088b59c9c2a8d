-- `block::judge` meets its contract: the tests of 1 and 2 come first, in that order, and then the FIGs.
-- Assumes nothing.
use mathlib.Core.Path.{ap}
use Rattle.std.specs.Prelude.{Err}
use Rattle.block.proofs.Answering.{judges_no_block, judges_check, judges_figs}
use Rattle.block.proofs.judge.Goals as goal

pub returns-then-fib-ne32 : goal.returns-then-fib-ne32
returns-then-fib-ne32 c = judges_no_block _ _ c.if-fib-ne32.true (ap Err c.at.ensures)

pub returns-then-not-check_holds : goal.returns-then-not-check_holds
returns-then-not-check_holds c =
    judges_check _ _ c.if-fib-ne32.false c.check_holds.result c.check_holds.ensures c.if-not-check_holds.true (ap Err c.at-then-not-check_holds.ensures)

pub returns : goal.returns
returns c =
    judges_figs _ _ c.if-fib-ne32.false c.check_holds.result c.check_holds.ensures c.if-not-check_holds.false c.judge_figs.ensures
