use native.Mathlib.Omega.{arith}
use mathlib.Core.Path.{◌≡◌, refl, ap}
use lib.ListN.{length}
use Rattle.out.specs.Text.{decimal}
use Rattle.out.proofs.Digits.{length_decimal, decimal_one, length_decimal_last}
use borrow.Author.Rules.{rules}
use Rattle.out.proofs.decimal_size.Goals as goal

pub loop-q-init : goal.loop-q-init
loop-q-init c = (search rules, refl)

pub overflow_add-d : goal.overflow_add-d
overflow_add-d c = record { fits = omega (arith, length_decimal c.args.n) }

pub loop-q-preserved : goal.loop-q-preserved
loop-q-preserved c =
    let q = c.loop-q.q in
    (omega arith, omega (arith, length_decimal_last q (omega arith) c.loop-q.invariant.0))

pub returns : goal.returns
returns c =
    let one : length (decimal c.loop-q.q) ≡ 1 = ap length (decimal_one c.loop-q.q (omega arith)) in
    (omega arith, omega (arith, length_decimal c.args.n))
