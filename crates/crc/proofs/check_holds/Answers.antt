-- `crc::check_holds` meets its contract: check_holds, opened, is what the code compares. Assumes nothing.
use mathlib.Core.Path.{sym}
use native.Mathlib.Omega.{arith}
use lib.Seq.{length-take-le}
use borrow.Author.Tests.{eq-eqb}
use Rattle.rules.specs.Block.{check_holds}
use Rattle.crc.proofs.check_holds.Goals as goal

pub slice_bounds-check_of-end : goal.slice_bounds-check_of-end
slice_bounds-check_of-end c =
    sym (length-take-le _ c.args.fib.now (omega arith))

pub returns : goal.returns
unfolding check_holds
returns c = simp (c.from.ensures, c.from_be_bytes.ensures, c.check_of.ensures.0, eq-eqb _ _ c.if-fib-ne32.false)
