-- `text::pairs_size` meets its contract: at most 128 identifiers of at most ten bytes.
use mathlib.Core.Path.{◌≡◌}
use Prim.Native.Nat.{ℕ, ◌+◌, ◌*◌, ◌≤◌}
use native.Mathlib.Nat.{mul-le-mul}
use native.Mathlib.Omega.{arith}
use mathlib.Core.Path.{ap}
use Rattle.rules.specs.Collecting.{most_ids, key_width}
use Rattle.rules.proofs.TableRules.{width_most}
use Rattle.text.proofs.pairs_size.Goals as goal

-- a number has eight digits at most
narrow : (key : ℕ) {w : ℕ} → w ≡ key_width key → w ≤ 4
narrow key e = omega (arith, e, width_most key)

few : (key : ℕ) {w n : ℕ} → w ≡ key_width key → n ≤ most_ids → n * (2 + 2 * w) ≤ 1280
few key {n = n} e h = mul-le-mul {n₁ = n} {n₂ = most_ids} {m₂ = 10} h (omega (arith, narrow key e))

pub overflow_mul-result : goal.overflow_mul-result
overflow_mul-result c = record { fits = omega (arith, narrow c.args.key c.width_of.ensures) }

pub overflow_add-result : goal.overflow_add-result
overflow_add-result c = record { fits = omega (arith, narrow c.args.key c.width_of.ensures) }

pub overflow_mul-result-2 : goal.overflow_mul-result-2
overflow_mul-result-2 c = record { fits = omega (arith, few c.args.key c.width_of.ensures c.requires) }

pub returns : goal.returns
returns c = (ap (λ (w : ℕ). c.args.n * (2 + 2 * w)) c.width_of.ensures, few c.args.key c.width_of.ensures c.requires)
