-- The answer to a block by its tests, in their order: what is no block, a check that fails, and the FIGs.
use Prim.Native.Nat.{ℕ}
use mathlib.Core.Path.{◌≡◌, sym, ap, ◌∙◌}
use mathlib.Core.Bool.{Bool, true, false, ◌&&◌}
use mathlib.Core.List.{List}
use lib.ListN.{length}
use lib.Dec.{eqb}
use borrow.Author.Tests.{eq-eqb, ne_eqb}
use Rattle.std.specs.Prelude.{Result, Err}
use Rattle.rules.specs.Block.{check_holds}
use Rattle.rules.specs.Outcomes.{verdict}
use Rattle.block.specs.declared.Spots.{Spots}
use Rattle.block.specs.declared.Fault.TheVariants as Fault
use Rattle.block.specs.declared.Refused.{Refused}
use Rattle.block.specs.Judged.{fault_by, judged_as, judged}
use Rattle.block.specs.Faults.{JudgesFigs}

module _ (fib : List ℕ) (r : Result Spots Refused) where
  pub judges_no_block : (length fib ≡ 32 → ⊥) → r ≡ Err (record { fault = Fault.NotABlock; place = 0 }) → r ≡ judged fib
  unfolding judged judged_as verdict
  judges_no_block l e = rw (ne_eqb (length fib) 32 l) e

  module _ (l : length fib ≡ 32) (b : Bool) (t : b ≡ (eqb (length fib) 32 && check_holds fib)) where
    check_is : check_holds fib ≡ b
    check_is = sym (t ∙ ap (λ (x : Bool). x && check_holds fib) (eq-eqb (length fib) 32 l))

    pub judges_check : b ≡ false → r ≡ Err (record { fault = Fault.CheckFails; place = 0 }) → r ≡ judged fib
    unfolding judged judged_as fault_by verdict
    judges_check f e = rw (eq-eqb (length fib) 32 l, check_is ∙ f) e

    pub judges_figs : b ≡ true → JudgesFigs fib r → r ≡ judged fib
    unfolding judged verdict JudgesFigs
    judges_figs h j = rw (eq-eqb (length fib) 32 l, check_is ∙ h) j
