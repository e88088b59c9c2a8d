-- The table of the block check (document 02, R-5). It serves inner functions only: what is published says nothing of a table.
use Rattle.std.specs.Prelude.{ℕ, ◌*◌, ◌<◌, ◌≡◌, Bool, false, List, get_or, replicate}
use Rattle.rules.specs.Block.{bits, shifts}

-- what these four bits leave: the register that has them at its top, and nothing below, after four shifts
unfoldable pub remainder : ℕ → List Bool
remainder top = shifts (bits 16 (top * 4096)) (replicate 4 false)

-- a table has that for each four bits
pub record Remainders (table : List ℕ) : Type 0 where
  pub entry : (top : ℕ) → top < 16 → bits 16 (get_or table top 0) ≡ remainder top
