-- A field of a held key on the rows of its shown set and its open list, case by case: the laws of HeldLaws.antt on the lists of the rows.
use Prim.Native.Nat.{ℕ, ◌<◌, ◌≤◌}
use native.Mathlib.Omega.{arith}
use mathlib.Core.Path.{◌≡◌, refl, sym, ap, subst, ◌∙◌}
use mathlib.Core.Bool.{true, false}
use mathlib.Core.List.{List}
use lib.ListN.{length, get_or, take}
use Rattle.std.specs.Prelude.{Option, Some, None, unwrap_or}
use Rattle.rules.specs.Collecting.{most_ids}
use Rattle.rules.specs.declared.Note.{Note}
use Rattle.rules.specs.declared.Note.TheVariants.{Opened, ShownAndOpened, Added, NoOpenList, TooLong, StateOnly}
use Rattle.rules.specs.Outcomes.{overwritten}
use Rattle.field.specs.declared.Field.{Field}
use Rattle.field.specs.FieldStep.{has_list_in, continues}
use Rattle.lists.specs.Stored.{empty_list}
use Rattle.lists.specs.Grown.{with_field}
use Rattle.rules.specs.Arrays.{padded}
use Rattle.reading.specs.declared.rows.Row.{Row}
use Rattle.reading.specs.declared.rows.Stepped.{Stepped}
use Rattle.reading.specs.Steps.{is_showing, HeldStep}
use Rattle.reading.specs.Gathered.{row_list, appended_as, RowStep}
use Rattle.reading.proofs.HeldLaws.{step_state, step_none, step_added, step_long, step_opened, step_shown}
use Rattle.reading.proofs.RowLaws.{row_of, row_copied}

-- a row with no list
row_empty : (ns ks : List ℕ) → row_list ns ks (row_of 0 0) ≡ empty_list
unfolding row_list empty_list padded
row_empty ns ks = refl

-- what is left of a row to which all was to be added
row_or : (g : Option Row) (ns ks : List ℕ) → row_list ns ks (unwrap_or g (row_of 0 0)) ≡ unwrap_or (appended_as g ns ks) empty_list
unfolding appended_as
row_or (Some r) ns ks = refl
row_or None ns ks = row_empty ns ks

module _ (body : List ℕ) (f : Field) (bytes : (i : ℕ) → get_or body i 0 < 256) (s d : Row) (r : Stepped) (sn sk dn dk : List ℕ) where
  -- a step whose answer is known
  abbrev by : Stepped → List ℕ → List ℕ → List ℕ → List ℕ → Type 0
  by x sn' sk' dn' dk' = r ≡ x → RowStep body f s d r sn sk dn dk sn' sk' dn' dk'

  abbrev stepped : Row → Row → Note → Stepped
  stepped shown draft note = record { shown = shown; draft = draft; note = note }

  pub row_state : has_list_in f ≡ false → by (stepped s d StateOnly) sn sk dn dk
  unfolding HeldStep is_showing
  row_state h e =
      subst (λ (x : Stepped). RowStep body f s d x sn sk dn dk sn sk dn dk) (sym e)
      (record { drafted = λ x on block place next fd q m ed. step_state body f bytes x on block place next fd q m (row_list dn dk d) ed h; showing = refl })

  pub row_none : has_list_in f ≡ true → continues f ≡ true → d.len ≡ 0 → by (stepped s d NoOpenList) sn sk dn dk
  unfolding HeldStep is_showing row_list
  row_none h c z e =
      subst (λ (x : Stepped). RowStep body f s d x sn sk dn dk sn sk dn dk) (sym e)
      (record { drafted = λ x on block place next fd q m ed. step_none body f bytes x on block place next fd q m (row_list dn dk d) ed h c z; showing = refl })

  module _ (dn' dk' : List ℕ) where
    pub row_added : has_list_in f ≡ true → continues f ≡ true → (d.len ≡ 0 → ⊥) → (g : Option Row) (x : Row) → g ≡ Some x
        → appended_as g dn' dk' ≡ with_field (row_list dn dk d) body f → by (stepped s x Added) sn sk dn' dk'
    unfolding HeldStep is_showing row_list appended_as
    row_added h c n g x z w e =
        subst (λ (y : Stepped). RowStep body f s d y sn sk dn dk sn sk dn' dk') (sym e)
        (record { drafted = λ y on block place next fd q m ed. step_added body f bytes y on block place next fd q m (row_list dn dk d) ed (Some (row_list dn' dk' x)) h c n (sym (ap (λ (o : Option Row). appended_as o dn' dk') z) ∙ w) refl; showing = refl })

    pub row_long : has_list_in f ≡ true → continues f ≡ true → (d.len ≡ 0 → ⊥) → (g : Option Row) → g ≡ None
        → appended_as g dn' dk' ≡ with_field (row_list dn dk d) body f → (x : Row) → x ≡ row_of 0 0 → by (stepped s x TooLong) sn sk dn' dk'
    unfolding HeldStep is_showing row_list appended_as
    row_long h c n g z w x xe e =
        subst (λ (y : Stepped). RowStep body f s d y sn sk dn dk sn sk dn' dk') (sym (e ∙ ap (λ (y : Row). stepped s y TooLong) xe))
        (record {
          drafted = λ y on block place next fd q m ed.
              (λ i. record { shows = false; draft = row_empty dn' dk' i; note = TooLong })
              ∙ step_long body f bytes y on block place next fd q m (row_list dn dk d) ed None h c n (sym (ap (λ (o : Option Row). appended_as o dn' dk') z) ∙ w) refl;
          showing = refl;
        })

  module _ (g : Option Row) (x : Row) (xe : x ≡ unwrap_or g (row_of 0 0)) (dn' dk' : List ℕ) where
    drafted : row_list dn' dk' x ≡ unwrap_or (appended_as g dn' dk') empty_list
    drafted = ap (row_list dn' dk') xe ∙ row_or g dn' dk'

    pub row_opened : has_list_in f ≡ true → continues f ≡ false → d.len ≡ 0 → appended_as g dn' dk' ≡ with_field (row_list dn dk (row_of 0 0)) body f
        → by (stepped s x Opened) sn sk dn' dk'
    unfolding HeldStep is_showing
    row_opened h c z w e =
        subst (λ (y : Stepped). RowStep body f s d y sn sk dn dk sn sk dn' dk') (sym e)
        (record {
          drafted = λ y on block place next fd q m ed.
              (λ i. record { shows = false; draft = drafted i; note = Opened })
              ∙ step_opened body f bytes y on block place next fd q m (row_list dn dk d) ed (appended_as g dn' dk') h c (unfold row_list in z) (row_list dn dk (row_of 0 0)) (row_empty dn dk) w;
          showing = refl;
        })

    pub row_shown : has_list_in f ≡ true → continues f ≡ false → (d.len ≡ 0 → ⊥) → appended_as g dn' dk' ≡ with_field (row_list dn dk (row_of 0 0)) body f
        → length dn ≡ most_ids → length dk ≡ most_ids → d.len ≤ most_ids → (sn' sk' : List ℕ) → sn' ≡ overwritten (take d.len dn) sn → sk' ≡ overwritten (take d.len dk) sk
        → by (stepped d x ShownAndOpened) sn' sk' dn' dk'
    unfolding HeldStep is_showing
    row_shown h c n w ln lk short sn' sk' p q' e =
        subst (λ (y : Stepped). RowStep body f s d y sn sk dn dk sn' sk' dn' dk') (sym e)
        (record {
          drafted = λ y on block place next fd q m ed.
              (λ i. record { shows = true; draft = drafted i; note = ShownAndOpened })
              ∙ step_shown body f bytes y on block place next fd q m (row_list dn dk d) ed (appended_as g dn' dk') h c (unfold row_list in n) (row_list dn dk (row_of 0 0)) (row_empty dn dk) w;
          showing = row_copied dn dk sn' sk' sn sk d.len d.named (omega arith) (omega arith) p q';
        })
