-- Laws of runs of stores into a buffer. In order: a run past the end; a run at a place that is cut to the buffer's length; one
-- run after another (`puts_then`).
use Prim.Native.Nat.{ℕ, suc, ◌+◌, ◌≤◌, min}
use native.Mathlib.Nat.{add-zero}
use native.Mathlib.Omega.{arith}
use mathlib.Core.Path.{◌≡◌, refl, sym, ap, ◌∙◌, subst}
use mathlib.Core.List.{List, [], ◌∷◌, ◌++◌}
use lib.ListN.{length, set, length-append}
use lib.Dec.{leb}
use lib.Seq.{sets, length-sets, set_out}
use borrow.Author.Tests.{leb-true, leb-false}
use Rattle.rules.proofs.Basics.{cases_bool}
use Rattle.out.specs.Put.{Puts}

-- ---- runs

-- past the end nothing is stored
pub sets_out : (vs l : List ℕ) (i : ℕ) → length l ≤ i → sets l i vs ≡ l
sets_out [] l i h = refl
sets_out (v ∷ vs) l i h =
    ap (λ (m : List ℕ). sets m (suc i) vs) (set_out l i v h) ∙ sets_out vs l (suc i) (omega arith)

-- a place past the end is as good as the end
pub sets_cut : (vs l : List ℕ) (i : ℕ) → sets l (min i (length l)) vs ≡ sets l i vs
sets_cut vs l i =
    cases_bool (leb i (length l))
    (λ e. ap (λ (k : ℕ). sets l k vs) (omega (arith, leb-true i (length l) e)))
    (λ e. sets_out vs l _ (omega (arith, leb-false i (length l) e)) ∙ sym (sets_out vs l i (omega (arith, leb-false i (length l) e))))

-- one run after another is one run
pub sets_append : (us vs l : List ℕ) (i : ℕ) → sets (sets l i us) (i + length us) vs ≡ sets l i (us ++ vs)
sets_append [] vs l i = ap (λ (k : ℕ). sets l k vs) (add-zero i)
sets_append (u ∷ us) vs l i =
    ap (λ (k : ℕ). sets (sets (set l i u) (suc i) us) k vs) (omega arith) ∙ sets_append us vs (set l i u) (suc i)

-- ---- writers

module _ {l : List ℕ} {i : ℕ} {us : List ℕ} {m : List ℕ} {j : ℕ} where
  pub puts_length : Puts l i us m j → length m ≡ length l
  puts_length p = ap length p.stored ∙ length-sets l i us

  -- the same text, said in another way
  pub puts_as : {vs : List ℕ} → us ≡ vs → Puts l i us m j → Puts l i vs m j
  puts_as e p = record { stored = p.stored ∙ ap (sets l i) e; after = p.after ∙ ap (λ (x : List ℕ). min (i + length x) (length l)) e }

  -- one writer after another
  pub puts_then : {vs n : List ℕ} {k : ℕ} → Puts l i us m j → Puts m j vs n k → Puts l i (us ++ vs) n k
  puts_then {vs} {n} {k} p q =
      record {
        stored =
            q.stored ∙ ap (λ (x : ℕ). sets m x vs) (p.after ∙ ap (min (i + length us)) (sym (puts_length p))) ∙ sets_cut vs m (i + length us)
            ∙ ap (λ (x : List ℕ). sets x (i + length us) vs) p.stored ∙ sets_append us vs l i;
        after = omega (arith, p.after, q.after, puts_length p, length-append us vs);
      }
