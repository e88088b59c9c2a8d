-- `out::digit_at` meets its contract: four bits to a digit, and none past the eighth.
use Prim.Native.Nat.{ℕ, ◌/◌, ◌%◌}
use mathlib.Core.Path.{ap, ◌∙◌}
use Rattle.out.specs.Text.{hex_digit}
use Rattle.out.proofs.Digits.{four_bits, high_digit}
use borrow.Author.Rules.{rules}
use Rattle.out.proofs.digit_at.Goals as goal

pub returns-then-place-lt8 : goal.returns-then-place-lt8
returns-then-place-lt8 c = c.hex_digit.ensures ∙ ap (λ (m : ℕ). hex_digit (c.args.n / m % 16)) (four_bits c.args.place)

pub returns-else-place-lt8 : goal.returns-else-place-lt8
returns-else-place-lt8 c = high_digit c.args.n c.args.place (search rules) c.if-place-lt8.false
