-- `totals::is_alike` meets its contract: two flags are one where their numbers are.
use Rattle.std.proofs.Common.{rules}
use mathlib.Core.Path.{◌≡◌, refl}
use mathlib.Core.Bool.{Bool, true, false, beq}
use lib.Dec.{eqb}
use borrow.Author.Tests.{tests}
use Rattle.rules.specs.Block.{bit}
use Rattle.totals.specs.Kept.{alike}
use Rattle.totals.proofs.is_alike.Goals as goal

bits : (a b : Bool) → beq a b ≡ eqb (bit a) (bit b)
unfolding bit
bits true true = refl
bits true false = refl
bits false true = refl
bits false false = refl

pub returns-then-old_len-len : goal.returns-then-old_len-len
unfolding alike
returns-then-old_len-len c = search (rules, tests, bits)

pub returns-else-old_len-len : goal.returns-else-old_len-len
unfolding alike
returns-else-old_len-len c = search (rules, tests)
