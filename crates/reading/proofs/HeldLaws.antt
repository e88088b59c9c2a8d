-- A field of a held key on the stored form, case by case: on or off alone; a continuation with no open list, with one that
-- grows, with one that grows too long; a start with no open list and with one.
use Prim.Native.Nat.{ℕ, ◌≤◌, ◌<◌}
use mathlib.Core.Path.{◌≡◌, refl, sym, ap, ◌∙◌}
use mathlib.Core.Bool.{Bool, true, false, true≢false, false≢true}
use mathlib.Core.List.{List}
use mathlib.Core.Option.{Option, none, some}
use lib.ListN.{length, get_or}
use lib.Dec.{leb}
use Rattle.rules.specs.declared.Note.TheVariants.{Opened, ShownAndOpened, Added, NoOpenList, TooLong, StateOnly}
use Rattle.rules.specs.Family.{Act, start, continuation, no_list, entry_with, started, continued, on_held, extended}
use Rattle.rules.specs.Collecting.{linkage, IdSet, Held, brings, act_of, if_there, most_ids}
use Rattle.rules.proofs.Basics.{cases_bool}
use Rattle.rules.proofs.TableRules.{set_rules}
use Rattle.field.specs.declared.Field.{Field}
use Rattle.field.specs.declared.FieldStep.TheVariants.{Found}
use Rattle.field.specs.FieldStep.{field_step_at, meaning, has_list_in, continues}
use Rattle.field.proofs.Laws.{InBody, field_step_at_range, has_list_means, is_continuation_means}
use Rattle.lists.specs.declared.IdList.{IdList}
use Rattle.std.specs.Prelude as Rust
use Rattle.std.specs.Prelude.{unwrap_or}
use Rattle.std.specs.Option.{is_some}
use Rattle.lists.specs.Stored.{store_list, empty_list, store_maybe}
use Rattle.lists.specs.Grown.{with_field}
use Rattle.lists.proofs.StoredLaws.{stored_some}
use Rattle.lists.proofs.GrownLaws.{with_store, with_none}
use Rattle.reading.specs.Steps.{ListStep, is_showing, stepped_as}

-- ---- what the field asks for

module _ (body : List ℕ) (f : Field) where
  pub act_none : has_list_in f ≡ false → act_of (meaning body f) ≡ no_list
  unfolding act_of
  act_none h = rw (sym (has_list_means body f) ∙ h)

  pub act_more : has_list_in f ≡ true → continues f ≡ true → act_of (meaning body f) ≡ continuation (brings (meaning body f))
  unfolding act_of
  act_more h c = rw (sym (has_list_means body f) ∙ h, sym (is_continuation_means body f) ∙ c)

  pub act_start : has_list_in f ≡ true → continues f ≡ false → act_of (meaning body f) ≡ start (brings (meaning body f))
  unfolding act_of
  act_start h c = rw (sym (has_list_means body f) ∙ h, sym (is_continuation_means body f) ∙ c)

-- ---- what becomes of the entry

module _ (body : List ℕ) (f : Field) (r : InBody body f) (q : f.qualifier ≡ 2 → ⊥) (e : Held) (s : Bool) (block k : ℕ) where
  more_none : (o : Option IdSet) → if_there k o ≡ true → (store_maybe o).len ≡ 0
      → record { shows = false; draft = store_maybe o; note = NoOpenList } ≡ stepped_as (continued linkage e s (brings (meaning body f)) o)
  unfolding continued entry_with stepped_as is_showing
  more_none none m z = refl
  more_none (some d) m z = absurd (stored_some k d m z)

  -- the list with a continuation, in the rules' words
  longer : IdSet → IdSet
  longer d = extended linkage d (brings (meaning body f))

  grown_fits : (d : IdSet) (g : Rust.Option IdList) → length d.items ≤ most_ids → g ≡ with_field (store_list d) body f → leb (length (longer d).items) most_ids ≡ true
      → g ≡ Rust.Some (store_list (longer d))
  unfolding longer
  grown_fits d g h w l = w ∙ with_store body f r q d h ∙ rw l

  grown_not : (d : IdSet) (g : Rust.Option IdList) → length d.items ≤ most_ids → g ≡ with_field (store_list d) body f → leb (length (longer d).items) most_ids ≡ false
      → g ≡ Rust.None
  unfolding longer
  grown_not d g h w l = w ∙ with_store body f r q d h ∙ rw l

  continued_fits : (d : IdSet) → leb (length (longer d).items) most_ids ≡ true
      → record { shows = false; draft = store_list (longer d); note = Added } ≡ stepped_as (continued linkage e s (brings (meaning body f)) (some d))
  unfolding longer continued entry_with stepped_as is_showing store_maybe
  continued_fits d l = rw l

  continued_not : (d : IdSet) → leb (length (longer d).items) most_ids ≡ false
      → record { shows = false; draft = empty_list; note = TooLong } ≡ stepped_as (continued linkage e s (brings (meaning body f)) (some d))
  unfolding longer continued entry_with stepped_as is_showing store_maybe
  continued_not d l = rw l

  short : (d : IdSet) → if_there k (some d) ≡ true → length d.items ≤ most_ids
  unfolding if_there
  short d m = ((set_rules k d).0 m).short

  more_fits : (o : Option IdSet) (g : Rust.Option IdList) → if_there k o ≡ true → ((store_maybe o).len ≡ 0 → ⊥) → g ≡ with_field (store_maybe o) body f → is_some g ≡ true
      → record { shows = false; draft = unwrap_or g empty_list; note = Added } ≡ stepped_as (continued linkage e s (brings (meaning body f)) o)
  unfolding store_maybe empty_list
  more_fits none g m n w t = absurd (n refl)
  more_fits (some d) g m n w t =
      cases_bool (leb (length (longer d).items) most_ids)
      (λ l. ap (λ (x : Rust.Option IdList). record { shows = false; draft = unwrap_or x empty_list; note = Added }) (grown_fits d g (short d m) w l) ∙ continued_fits d l)
      (λ l. absurd (false≢true (sym (ap is_some (grown_not d g (short d m) w l)) ∙ t)))

  more_not : (o : Option IdSet) (g : Rust.Option IdList) → if_there k o ≡ true → ((store_maybe o).len ≡ 0 → ⊥) → g ≡ with_field (store_maybe o) body f → is_some g ≡ false
      → record { shows = false; draft = unwrap_or g empty_list; note = TooLong } ≡ stepped_as (continued linkage e s (brings (meaning body f)) o)
  unfolding store_maybe empty_list
  more_not none g m n w t = absurd (n refl)
  more_not (some d) g m n w t =
      cases_bool (leb (length (longer d).items) most_ids)
      (λ l. absurd (true≢false (sym (ap is_some (grown_fits d g (short d m) w l)) ∙ t)))
      (λ l. ap (λ (x : Rust.Option IdList). record { shows = false; draft = unwrap_or x empty_list; note = TooLong }) (grown_not d g (short d m) w l) ∙ continued_not d l)

  -- a start, with the new list as it is stored
  start_none : (o : Option IdSet) (g : Rust.Option IdList) → if_there k o ≡ true → (store_maybe o).len ≡ 0 → g ≡ with_field empty_list body f
      → record { shows = false; draft = unwrap_or g empty_list; note = Opened } ≡ stepped_as (started linkage e s block (brings (meaning body f)) o)
  unfolding started entry_with stepped_as is_showing store_maybe
  start_none none g m z w = ap (λ (x : Rust.Option IdList). record { shows = false; draft = unwrap_or x empty_list; note = Opened }) (w ∙ with_none body f r q)
  start_none (some d) g m z w = absurd (stored_some k d m z)

  start_some : (o : Option IdSet) (g : Rust.Option IdList) → ((store_maybe o).len ≡ 0 → ⊥) → g ≡ with_field empty_list body f
      → record { shows = true; draft = unwrap_or g empty_list; note = ShownAndOpened } ≡ stepped_as (started linkage e s block (brings (meaning body f)) o)
  unfolding started entry_with stepped_as is_showing store_maybe empty_list
  start_some none g n w = absurd (n refl)
  start_some (some d) g n w = ap (λ (x : Rust.Option IdList). record { shows = true; draft = unwrap_or x empty_list; note = ShownAndOpened }) (w ∙ with_none body f r q)

-- ---- the field's step, as the code takes it

module _ (body : List ℕ) (f : Field) (bytes : (i : ℕ) → get_or body i 0 < 256) (e : Held) (s : Bool) (block place next : ℕ) (fd : field_step_at body place ≡ Found f next)
    (q : f.qualifier ≡ 2 → ⊥) (m : if_there e.key e.draft ≡ true) (draft : IdList) (ed : draft ≡ store_maybe e.draft) where
  inside : InBody body f
  inside = (field_step_at_range body place f next bytes fd).field

  -- the step that the act makes is the step of the field
  by_act : (a : Act linkage) (x : ListStep) → act_of (meaning body f) ≡ a → x ≡ stepped_as (on_held linkage e s block a) → x ≡ stepped_as (on_held linkage e s block (act_of (meaning body f)))
  by_act a x p y = y ∙ ap (λ (b : Act linkage). stepped_as (on_held linkage e s block b)) (sym p)

  len_is : draft.len ≡ (store_maybe e.draft).len
  len_is = ap (λ (l : IdList). l.len) ed

  pub step_state : has_list_in f ≡ false → record { shows = false; draft = draft; note = StateOnly } ≡ stepped_as (on_held linkage e s block (act_of (meaning body f)))
  unfolding on_held entry_with stepped_as is_showing
  step_state h = by_act no_list _ (act_none body f h) (λ i. record { shows = false; draft = ed i; note = StateOnly })

  pub step_none : has_list_in f ≡ true → continues f ≡ true → draft.len ≡ 0
      → record { shows = false; draft = draft; note = NoOpenList } ≡ stepped_as (on_held linkage e s block (act_of (meaning body f)))
  unfolding on_held
  step_none h c z =
      by_act (continuation (brings (meaning body f))) _ (act_more body f h c)
      ((λ i. record { shows = false; draft = ed i; note = NoOpenList }) ∙ more_none body f inside q e s block e.key e.draft m (sym len_is ∙ z))

  module _ (g : Rust.Option IdList) where
    pub step_added : has_list_in f ≡ true → continues f ≡ true → (draft.len ≡ 0 → ⊥) → g ≡ with_field draft body f → is_some g ≡ true
        → record { shows = false; draft = unwrap_or g empty_list; note = Added } ≡ stepped_as (on_held linkage e s block (act_of (meaning body f)))
    unfolding on_held
    step_added h c n w t =
        by_act (continuation (brings (meaning body f))) _ (act_more body f h c)
        (more_fits body f inside q e s block e.key e.draft g m (λ z. n (len_is ∙ z)) (w ∙ ap (λ (l : IdList). with_field l body f) ed) t)

    pub step_long : has_list_in f ≡ true → continues f ≡ true → (draft.len ≡ 0 → ⊥) → g ≡ with_field draft body f → is_some g ≡ false
        → record { shows = false; draft = unwrap_or g empty_list; note = TooLong } ≡ stepped_as (on_held linkage e s block (act_of (meaning body f)))
    unfolding on_held
    step_long h c n w t =
        by_act (continuation (brings (meaning body f))) _ (act_more body f h c)
        (more_not body f inside q e s block e.key e.draft g m (λ z. n (len_is ∙ z)) (w ∙ ap (λ (l : IdList). with_field l body f) ed) t)

    pub step_opened : has_list_in f ≡ true → continues f ≡ false → draft.len ≡ 0 → (l : IdList) → l ≡ empty_list → g ≡ with_field l body f
        → record { shows = false; draft = unwrap_or g empty_list; note = Opened } ≡ stepped_as (on_held linkage e s block (act_of (meaning body f)))
    unfolding on_held
    step_opened h c z l p w =
        by_act (start (brings (meaning body f))) _ (act_start body f h c)
        (start_none body f inside q e s block e.key e.draft g m (sym len_is ∙ z) (w ∙ ap (λ (x : IdList). with_field x body f) p))

    pub step_shown : has_list_in f ≡ true → continues f ≡ false → (draft.len ≡ 0 → ⊥) → (l : IdList) → l ≡ empty_list → g ≡ with_field l body f
        → record { shows = true; draft = unwrap_or g empty_list; note = ShownAndOpened } ≡ stepped_as (on_held linkage e s block (act_of (meaning body f)))
    unfolding on_held
    step_shown h c n l p w =
        by_act (start (brings (meaning body f))) _ (act_start body f h c)
        (start_some body f inside q e s block e.key e.draft g (λ z. n (len_is ∙ z)) (w ∙ ap (λ (x : IdList). with_field x body f) p))
