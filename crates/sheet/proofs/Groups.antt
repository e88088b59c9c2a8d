-- Numbers of a sheet as the code writes them: a number's groups, one after another. `Grouped q rest` says that `rest` are the
-- groups of `q`, with which the loops that count and write them go on.
use Prim.Native.Nat.{ℕ, zero, suc, ◌+◌, ◌/◌, ◌%◌, ◌^◌, ◌<◌, ◌≤◌}
use native.Mathlib.Omega.{arith}
use mathlib.Core.Path.{◌≡◌, refl, ◌∙◌}
use mathlib.Core.List.{List, [], ◌∷◌}
use lib.ListN.{length}
use lib.Dec.{ltb}
use Rattle.layout.specs.Sheet.{groups, sheet_number}
use Rattle.rules.proofs.Basics.{cases_bool}
use Rattle.layout.proofs.Laws.{power_less, groups_small, groups_large}

-- enough groups are left for the number
pub record Grouped (q : ℕ) (rest : List ℕ) : Type 0 where
  pub left : ℕ
  pub small : q < 128 ^ suc left
  pub groups_are : rest ≡ groups (suc left) q

pub grouped_start : (n : ℕ) → n < 2 ^ 32 → Grouped n (sheet_number n)
unfolding sheet_number
grouped_start n h = record { left = 4; small = omega arith; groups_are = refl }

-- a byte that is not the last, and the groups after it
pub record Grouping (q : ℕ) (rest : List ℕ) : Type 0 where
  pub after : List ℕ
  pub begins : rest ≡ (q % 128 + 128) ∷ after
  pub grouped : Grouped (q / 128) after

grouping : (left q : ℕ) (rest : List ℕ) → q < 128 ^ suc left → rest ≡ groups (suc left) q → 128 ≤ q → Grouping q rest
grouping zero q rest s e h = absurd (omega arith)
grouping (suc left) q rest s e h =
    record {
      after = groups (suc left) (q / 128);
      begins = e ∙ groups_large (suc left) q h;
      grouped = record { left = left; small = power_less (suc left) q s; groups_are = refl };
    }

pub grouped_next : (q : ℕ) (rest : List ℕ) → Grouped q rest → 128 ≤ q → Grouping q rest
grouped_next q rest g h = grouping g.left q rest g.small g.groups_are h

pub grouped_last : (q : ℕ) (rest : List ℕ) → Grouped q rest → q < 128 → rest ≡ q ∷ []
grouped_last q rest g h = g.groups_are ∙ groups_small g.left q h

-- a number takes at most five bytes
groups_short : (m n : ℕ) → length (groups m n) ≤ m
unfolding groups
groups_short zero n = omega arith
groups_short (suc m) n =
    cases_bool (ltb n 128) (λ s. rw s (omega arith)) (λ s. let r = groups_short m (n / 128) in rw s (omega arith))

pub number_short : (n : ℕ) → length (sheet_number n) ≤ 5
unfolding sheet_number
number_short n = groups_short 5 n
