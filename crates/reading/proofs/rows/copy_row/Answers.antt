-- `rows::copy_row` meets its contract: what is copied, over what stood there.
use Prim.Native.Nat.{ℕ, ◌≤◌}
use mathlib.Core.Path.{◌≡◌, sym, ap₂}
use mathlib.Core.List.{List, ◌++◌}
use lib.ListN.{length, take, drop}
use lib.Seq.{length-take-le}
use Rattle.rules.specs.Outcomes.{overwritten}
use Rattle.reading.proofs.rows.copy_row.Goals as goal

-- the first n of some values, and behind them what stood in the buffer
copied : (from to now' : List ℕ) (n : ℕ) → n ≤ length from → now' ≡ take n from → now' ++ drop n to ≡ overwritten (take n from) to
unfolding overwritten
copied from to now' n h e = ap₂ (λ (a : List ℕ) (k : ℕ). a ++ drop k to) e (sym (length-take-le n from h))

pub returns : goal.returns
returns c = (copied _ _ _ _ c.requires.0 c.copy_from_slice.ensures.after, copied _ _ _ _ c.requires.1 c.copy_from_slice-2.ensures.after)
