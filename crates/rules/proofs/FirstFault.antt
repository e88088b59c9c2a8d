-- The place of a refused block (document 02, R-1) is that of the first fault within the class answered: what stands there is at fault,
-- and nothing of that class before it is. In this order: the first field that does not fit; the first field that has a fault; the first
-- fault of a refused block. Where a walk breaks off: Breaks, Places.antt.
use Prim.Native.Nat.{ℕ, ◌+◌, ◌≤◌, ◌<◌}
use native.Mathlib.Omega.{arith}
use mathlib.Core.Path.{◌≡◌, refl, sym, ◌∙◌, ap}
use mathlib.Core.Bool.{Bool, true, false, cond}
use mathlib.Core.List.{List, [], ◌∷◌, ◌++◌}
use lib.ListN.{length}
use Rattle.rules.specs.Block.{check_holds, Placed, whole, broken, Fig, fig_at, figs}
use Rattle.rules.specs.Field.{Field, is_linking, field_at, fields_of, wrong_value, empty_start}
use Rattle.rules.specs.Outcomes.{joined, all_fields, some?, first_place}
use Rattle.rules.proofs.Basics.{cases_bool, Every}
use Rattle.rules.proofs.Taken.{cases-walk, broken_whole, figs_every}
use Rattle.rules.proofs.Places.{Breaks, figs_breaks, fields_breaks, Ascend, all_fields_ascend}
use Rattle.rules.proofs.LinkageLaws.{Refused, failing_check, broken_figs, broken_fields, bad_value, no_first}

-- ---- the first field that does not fit

-- the first FIG with a field that does not fit: in the linking FIGs before it all fields fit, and so do those before the place in it
pub record BreaksIn (gs : List (Placed Fig)) (place : ℕ) : Type 0 where
  pub before : List (Placed Fig)
  pub fig : Placed Fig
  pub later : List (Placed Fig)
  pub are : gs ≡ before ++ fig ∷ later
  pub linking : is_linking fig.what ≡ true
  pub fitting : List (Placed Field)
  pub fit : all_fields before ≡ whole fitting
  pub breaks : Breaks (fig.place + 1) (field_at fig.what.body) 1 place

module _ (place : ℕ) (fig : Placed Fig) (gs : List (Placed Fig)) where
  -- one FIG more in front, whose fields fit, or which carries no linking
  breaks_over : (fs : List (Placed Field)) → (is_linking fig.what ≡ true → fields_of fig ≡ whole fs) → BreaksIn gs place → BreaksIn (fig ∷ gs) place
  unfolding all_fields joined
  breaks_over fs e b =
      record {
        before = fig ∷ b.before;
        fig = b.fig;
        later = b.later;
        are = ap (λ (x : List (Placed Fig)). fig ∷ x) b.are;
        linking = b.linking;
        fitting = cond (is_linking fig.what) (fs ++ b.fitting) b.fitting;
        fit = cases_bool (is_linking fig.what) (λ l. rw (l, e l, b.fit)) (λ l. rw (l, b.fit));
        breaks = b.breaks;
      }

  breaks_here : is_linking fig.what ≡ true → Breaks (fig.place + 1) (field_at fig.what.body) 1 place → BreaksIn (fig ∷ gs) place
  unfolding all_fields
  breaks_here l b = record { before = []; fig = fig; later = gs; are = refl; linking = l; fitting = []; fit = refl; breaks = b }

all_break_at : (p : ℕ) (gs : List (Placed Fig)) → Every (λ fig. 1 ≤ length fig.what.body) gs → all_fields gs ≡ broken p → BreaksIn gs p
unfolding all_fields joined
all_break_at p [] s e = broken_whole p [] (sym e)
all_break_at p (fig ∷ gs) s e =
    cases_bool (is_linking fig.what)
    (λ l. cases-walk (fields_of fig)
    (λ fs w. breaks_over p fig gs fs (λ _. w) (all_break_at p gs s.1
    (cases-walk (all_fields gs)
    (λ xs v. broken_whole p (fs ++ xs) (sym (rw (l, w, v) at e)))
    (λ q v. v ∙ (rw (l, w, v) at e)))))
    (λ q w. breaks_here p fig gs l (fields_breaks fig p s.0 (w ∙ (rw (l, w) at e)))))
    (λ l. breaks_over p fig gs [] (λ t. let z : ◌≡◌ {A = Bool} true false = sym t ∙ l in let n : ◌≡◌ {A = ℕ} 0 1 = cc in absurd (omega arith)) (all_break_at p gs s.1 (rw l at e)))

-- ---- the first field that has a fault

-- a field at this place has it; none of the fields before it does, and all others stand behind it
pub record FirstWith (p : Field → Bool) (fs : List (Placed Field)) (place : ℕ) : Type 0 where
  pub before : List (Placed Field)
  pub field : Placed Field
  pub later : List (Placed Field)
  pub are : fs ≡ before ++ field ∷ later
  pub place_is : place ≡ field.place
  pub fault : p field.what ≡ true
  pub none_before : Every (λ f. p f.what ≡ false) before
  pub others_behind : Every (λ f. field.place < f.place) later

ascend_behind : (least : ℕ) (fs : List (Placed Field)) → Ascend (least + 1) fs → Every (λ f. least < f.place) fs
ascend_behind least [] a = tt
ascend_behind least (f ∷ fs) a = (omega (arith, a.0), behind_from least f.place fs (omega (arith, a.0)) (ascend_behind f.place fs a.1))
  where
    behind_from : (p q : ℕ) (xs : List (Placed Field)) → p < q → Every (λ f. q < f.place) xs → Every (λ f. p < f.place) xs
    behind_from p q [] h e = tt
    behind_from p q (x ∷ xs) h e = (omega (arith, e.0), behind_from p q xs h e.1)

pub first_with : (p : Field → Bool) (least : ℕ) (fs : List (Placed Field)) → Ascend least fs → some? p fs ≡ true → FirstWith p fs (first_place p fs)
unfolding some? first_place
first_with p least [] a e = let n : ◌≡◌ {A = ℕ} 0 1 = cc in absurd (omega arith)
first_with p least (f ∷ fs) a e =
    cases_bool (p f.what)
    (λ h. rw h (record {
      before = [];
      field = f;
      later = fs;
      are = refl;
      place_is = refl;
      fault = h;
      none_before = tt;
      others_behind = ascend_behind f.place fs a.1;
    }))
    (λ h. let b = first_with p (f.place + 1) fs a.1 (rw h at e) in
    rw h (record {
      before = f ∷ b.before;
      field = b.field;
      later = b.later;
      are = ap (λ (x : List (Placed Field)). f ∷ x) b.are;
      place_is = b.place_is;
      fault = b.fault;
      none_before = (h, b.none_before);
      others_behind = b.others_behind;
    }))

-- ---- the first fault within the class answered

pub data FirstFault (fib : List ℕ) : ℕ → ℕ → Type 0 where
  -- 2: the check is the whole block's, and the place 0
  of_check : check_holds fib ≡ false → FirstFault fib 2 0
  -- 3: the FIG at the place is wrong, and right FIGs lead up to it from the block's first byte
  of_fig : (p : ℕ) → Breaks 0 (fig_at fib) 0 p → FirstFault fib 3 p
  -- 4: the FIGs are all right; the field at the place does not fit its FIG, and all fields before it fit theirs
  of_field : (gs : List (Placed Fig)) → figs fib ≡ whole gs → (p : ℕ) → BreaksIn gs p → FirstFault fib 4 p
  -- 5: all fields fit; the field at the place has a wrong value, and none before it has
  of_value : (gs : List (Placed Fig)) → figs fib ≡ whole gs → (fs : List (Placed Field)) → all_fields gs ≡ whole fs → (p : ℕ)
      → FirstWith wrong_value fs p → FirstFault fib 5 p
  -- 6: no field has a wrong value; the field at the place is an empty start, and none before it is
  of_start : (gs : List (Placed Fig)) → figs fib ≡ whole gs → (fs : List (Placed Field)) → all_fields gs ≡ whole fs → some? wrong_value fs ≡ false
      → (p : ℕ) → FirstWith empty_start fs p → FirstFault fib 6 p

-- the place of a refused block is that of the first fault within the class answered
pub first_fault_in_class : (fib : List ℕ) (n p : ℕ) → length fib ≡ 32 → Refused fib n p → FirstFault fib n p
first_fault_in_class fib n p l (failing_check h) = of_check h
first_fault_in_class fib n p l (broken_figs h q e) = of_fig q (figs_breaks fib q l e)
first_fault_in_class fib n p l (broken_fields h gs g q e) =
    of_field gs g q (all_break_at q gs (figs_every (λ fig. 1 ≤ length fig.what.body) fib (λ fig q s. s.size) gs l g) e)
first_fault_in_class fib n p l (bad_value h gs g fs e v) =
    of_value gs g fs e (first_place wrong_value fs) (first_with wrong_value 0 fs (all_fields_ascend fib gs fs l g e) v)
first_fault_in_class fib n p l (no_first h gs g fs e v s) =
    of_start gs g fs e v (first_place empty_start fs) (first_with empty_start 0 fs (all_fields_ascend fib gs fs l g e) s)
