-- What a step means by the rules, in this order: the answer at a place of a block is what fig_at says stands there; and where
-- it is a FIG, where that FIG lies.
use Prim.Native.Nat.{ℕ, ◌+◌, ◌-◌, ◌≤◌, ◌<◌, ◌%◌}
use native.Mathlib.Omega.{arith}
use mathlib.Core.Path.{◌≡◌}
use mathlib.Core.List.{List}
use lib.ListN.{length, get_or}
use lib.Dec.{leb, ltb, eqb}
use borrow.Author.Tests.{eq-eqb, eqb-true, eqb-false, leb-false, ltb-false}
use Rattle.rules.specs.Block.{fig_at}
use Rattle.rules.proofs.Basics.{not_first, not_second, cond_ap}
use Rattle.figs.specs.declared.Cursor.{Cursor}
use Rattle.figs.specs.declared.FigStep.TheVariants.{Fig, End, Wrong}
use Rattle.figs.specs.Figs.{step_at, found}

-- a length counted from the start to the end
span : (a n : ℕ) → a + n - a ≡ n
span a n = omega arith

-- the FIG at a place of a block, as the rules find it there
pub step_at_means : (fib : List ℕ) (at : ℕ) → length fib ≡ 32 → found fib (step_at fib at) ≡ fig_at fib at
unfolding step_at fig_at found
step_at_means fib at h = simp (eq-eqb _ _ h, cond_ap (found fib), span)

no_end : (k s e : ℕ) (n : Cursor) → End ≡ Fig k s e n → ⊥
no_end k s e n p = let z : ◌≡◌ {A = ℕ} 0 1 = cc in omega arith

no_wrong : (k s e : ℕ) (n : Cursor) → Wrong ≡ Fig k s e n → ⊥
no_wrong k s e n p = let z : ◌≡◌ {A = ℕ} 0 1 = cc in omega arith

-- where a FIG found at a place of a block lies: its body begins after the byte at that place, has a byte or more, ends at
-- byte 30 or before it, and the next place is its end
pub record Lies (fib : List ℕ) (at start stop : ℕ) (next : Cursor) : Type 0 where
  pub block : length fib ≡ 32
  pub before : at < 30
  pub begins : start ≡ at + 1
  pub holds : start < stop
  pub within : stop ≤ 30
  pub goes_on_law : next.at ≡ stop

pub step_at_range : (fib : List ℕ) (at k s e : ℕ) (n : Cursor) → step_at fib at ≡ Fig k s e n → Lies fib at s e n
unfolding step_at
step_at_range fib at k s e n p =
    let x = get_or fib at 0 in
    let a = not_second (eqb (length fib) 32) (no_wrong k s e n) p in
    let b = not_first (leb 30 at) (no_end k s e n) a.1 in
    let c = not_first (eqb x 255) (no_end k s e n) b.1 in
    let d = not_first (eqb (x % 32) 0) (no_wrong k s e n) c.1 in
    let f = not_first (ltb 30 (at + 1 + x % 32)) (no_wrong k s e n) d.1 in
    let g = f.1 in
    let starts : s ≡ at + 1 = cc in
    let stops : e ≡ at + 1 + x % 32 = cc in
    let goes : n.at ≡ at + 1 + x % 32 = cc in
    record {
      block = eqb-true _ _ a.0;
      before = leb-false _ _ b.0;
      begins = starts;
      holds = omega (arith, eqb-false (x % 32) 0 d.0);
      within = omega (arith, ltb-false 30 (at + 1 + x % 32) f.0);
      goes_on_law = cc;
    }
