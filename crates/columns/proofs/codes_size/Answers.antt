-- `columns::codes_size` meets its contract: at most 128 rows of at most 62 bytes.
use Prim.Native.Nat.{ℕ, ◌+◌, ◌*◌, ◌≤◌}
use native.Mathlib.Nat.{mul-le-mul}
use native.Mathlib.Omega.{arith}
use mathlib.Core.Path.{ap, ◌∙◌}
use Rattle.rules.specs.Collecting.{most_ids}
use Rattle.rules.proofs.TableRules.{width_most}
use Rattle.columns.specs.Cells.{number_in, row_size}
use Rattle.columns.proofs.codes_size.Goals as goal

-- a code has eight digits at most
narrow : (c : goal.After-width_of) → c.width_of.result ≤ 4
narrow c = omega (arith, c.width_of.ensures, width_most c.args.rows.key)

pub overflow_mul-width_of : goal.overflow_mul-width_of
overflow_mul-width_of c = record { fits = omega (arith, narrow c) }

pub overflow_add-width_of : goal.overflow_add-width_of
overflow_add-width_of c = record { fits = omega (arith, narrow c) }

pub row_size-requires : goal.row_size-requires
row_size-requires c = omega (arith, narrow c)

pub overflow_mul-result : goal.overflow_mul-result
overflow_mul-result c = record { fits = omega (arith, mul-le-mul {n₁ = c.args.n} {n₂ = most_ids} {m₂ = 62} c.requires c.row_size.ensures.1) }

pub returns : goal.returns
returns c =
    let a = c.args in
    let w = a.rows in (
      ap (λ (k : ℕ). a.n * k) (c.row_size.ensures.0 ∙ ap (λ (k : ℕ). row_size w.form.csv w.on (number_in w) (2 + 2 * k)) c.width_of.ensures),
      mul-le-mul {n₁ = a.n} {n₂ = most_ids} {m₂ = 62} c.requires c.row_size.ensures.1,
    )
