-- `screen::line_size` meets its contract: the words and the three numbers.
use native.Mathlib.Omega.{arith}
use lib.ListN.{length-append}
use Rattle.screen.specs.Screen.{line_of}
use Rattle.screen.proofs.line_size.Goals as goal

pub returns : goal.returns
unfolding line_of
returns c = (
  simp length-append (omega (arith, c.decimal_size.ensures.0, c.decimal_size-2.ensures.0, c.decimal_size-3.ensures.0)),
  omega (arith, c.decimal_size.ensures.1, c.decimal_size-2.ensures.1, c.decimal_size-3.ensures.1),
)
