-- Where the FIGs and the fields of a block stand, and where a walk breaks off. In this order: a walk breaks off at the first thing that is
-- wrong; the FIGs and the fields of a block break off inside its 30 bytes of data; the places of FIGs and of fields ascend.
-- That a FIG is what stands at its place: figs_at, Taken.antt.
use Prim.Native.Nat.{ℕ, zero, suc, ◌+◌, ◌≤◌, ◌<◌}
use native.Mathlib.Omega.{arith}
use native.Mathlib.Nat.{zero-add}
use mathlib.Core.Path.{◌≡◌, refl, sym, ◌∙◌, ap, subst}
use mathlib.Core.List.{List, [], ◌∷◌, ◌++◌}
use lib.ListN.{length}
use lib.Dec.{leb}
use borrow.Author.Tests.{leb-true, leb-false, le-leb}
use Rattle.rules.specs.Block.{Step, item, end, wrong, Placed, Walk, whole, broken, after, walk, Fig, fig_at, figs}
use Rattle.rules.specs.Field.{Field, is_linking, field_at, fields_of}
use Rattle.rules.specs.Outcomes.{joined, all_fields}
use Rattle.rules.proofs.Basics.{cases_bool, cond_both, Every}
use Rattle.rules.proofs.Taken.{cases_step, cases-walk, broken_whole, joined-whole, whole_is, walk_item, walk_end, walk_wrong, Goes, fig_item, figs_goes, figs_every, field_item, fields_goes, fields_every}

-- ---- where a walk breaks off

broken_is : {A : Type 0} (p q : ℕ) → ◌≡◌ {A = Walk A} (broken p) (broken q) → p ≡ q
broken_is p q h = cc

-- from p on there stand these items, one right after the other, up to q; places in the block are counted from the byte from
abbrev pub Lead : {A : Type 0} → ℕ → (ℕ → Step A) → ℕ → List (Placed A) → ℕ → Type 0
Lead from at p [] q = p ≡ q
Lead from at p (x ∷ xs) q = (next : ℕ) × (at p ≡ item x.what next) × (x.place ≡ from + p) × Lead from at next xs q

-- from p on items lead up to something wrong, at this place of the block
pub record Breaks {A : Type 0} (from : ℕ) (at : ℕ → Step A) (p place : ℕ) : Type 0 where
  pub here : ℕ
  pub place_is : place ≡ from + here
  pub before : List (Placed A)
  pub lead : Lead from at p before here
  pub fault : at here ≡ wrong

-- steps that go on, up to a place from which on there is nothing
module _ {A : Type 0} (from : ℕ) (at : ℕ → Step A) (size : ℕ) (goes : (p : ℕ) (a : A) (q : ℕ) → at p ≡ item a q → (p < q) × (q ≤ size))
    (over : (p : ℕ) → size ≤ p → at p ≡ end) where
  wrong_inside : (p : ℕ) → at p ≡ wrong → p < size
  wrong_inside p e =
      cases_bool (leb size p)
      (λ h. let z : ◌≡◌ {A = Step A} end wrong = sym (over p (leb-true size p h)) ∙ e in let n : ◌≡◌ {A = ℕ} 0 1 = cc in absurd (omega arith))
      (λ h. leb-false size p h)

  -- with steps enough, a walk breaks off where something is wrong, and not before
  walk_breaks : (n p r : ℕ) → p ≤ size → size < p + n → walk from at n p ≡ broken r → Breaks from at p r
  unfolding after
  walk_breaks zero p r h l e = absurd (omega arith)
  walk_breaks (suc n) p r h l e =
      cases_step (at p)
      (λ a q i. let g = goes p a q i in
      cases-walk (walk from at n q)
      (λ xs w. broken_whole r _ (sym e ∙ walk_item from at n p a q i ∙ ap (after _) w))
      (λ s w.
      let b = walk_breaks n q r g.1 (omega (arith, g.0)) (w ∙ sym (walk_item from at n p a q i ∙ ap (after _) w) ∙ e) in
      record {
        here = b.here;
        place_is = b.place_is;
        before = record { place = from + p; what = a } ∷ b.before;
        lead = (q, i, refl, b.lead);
        fault = b.fault;
      }))
      (λ i. broken_whole r [] (sym e ∙ walk_end from at n p i))
      (λ i. record { here = p; place_is = broken_is r (from + p) (sym e ∙ walk_wrong from at n p i); before = []; lead = refl; fault = i })

-- the FIGs of a block go on up to its 30 bytes of data
module _ (fib : List ℕ) (l : length fib ≡ 32) where
  fig_goes : (p : ℕ) (fig : Fig) (q : ℕ) → fig_at fib p ≡ item fig q → (p < q) × (q ≤ 30)
  fig_goes p fig q i = let s = fig_item fib p fig q l i in (omega (arith, s.ends), s.inside)

  fig_over : (p : ℕ) → 30 ≤ p → fig_at fib p ≡ end
  unfolding fig_at
  fig_over p h = rw (le-leb 30 p h)

pub figs_breaks : (fib : List ℕ) (p : ℕ) → length fib ≡ 32 → figs fib ≡ broken p → Breaks 0 (fig_at fib) 0 p
unfolding figs
figs_breaks fib p l e = walk_breaks 0 (fig_at fib) 30 (fig_goes fib l) (fig_over fib l) 31 0 p (omega arith) (omega arith) e

-- they break off in its data, where what stands is wrong
pub figs_break : (fib : List ℕ) (p : ℕ) → length fib ≡ 32 → figs fib ≡ broken p → (p < 30) × (fig_at fib p ≡ wrong)
figs_break fib p l e =
    let b = figs_breaks fib p l e in
    (omega (arith, b.place_is, wrong_inside 0 (fig_at fib) 30 (fig_goes fib l) (fig_over fib l) b.here b.fault), ap (fig_at fib) (b.place_is ∙ zero-add b.here) ∙ b.fault)

-- the fields of a FIG go on up to the end of its body
module _ (body : List ℕ) where
  field_goes : (p : ℕ) (f : Field) (q : ℕ) → field_at body p ≡ item f q → (p < q) × (q ≤ length body)
  field_goes p f q i = let s = field_item body p f q i in (omega (arith, s.from), s.inside)

  field_over : (p : ℕ) → length body ≤ p → field_at body p ≡ end
  unfolding field_at
  field_over p h = rw (le-leb (length body) p h)

pub fields_breaks : (fig : Placed Fig) (p : ℕ) → 1 ≤ length fig.what.body → fields_of fig ≡ broken p → Breaks (fig.place + 1) (field_at fig.what.body) 1 p
unfolding fields_of
fields_breaks fig p l e =
    let body = fig.what.body in
    walk_breaks (fig.place + 1) (field_at body) (length body) (field_goes body) (field_over body) (length body) 1 p l (omega arith) e

-- they break off in its body
pub fields_break : (fig : Placed Fig) (p : ℕ) → 1 ≤ length fig.what.body → fields_of fig ≡ broken p
    → (fig.place < p) × (p < fig.place + 1 + length fig.what.body)
fields_break fig p l e =
    let body = fig.what.body in
    let b = fields_breaks fig p l e in
    (omega (arith, b.place_is), omega (arith, b.place_is, wrong_inside (fig.place + 1) (field_at body) (length body) (field_goes body) (field_over body) b.here b.fault))

-- two walks, one after the other, break off where one of them does
joined-breaks {ℓ} : {A : Type 0} {C : Type ℓ} (v w : Walk A) (p : ℕ) → joined v w ≡ broken p → (v ≡ broken p → C) → (w ≡ broken p → C) → C
unfolding joined
joined-breaks (whole xs) (whole ys) p h a b = broken_whole p (xs ++ ys) (sym h)
joined-breaks (whole xs) (broken q) p h a b = b h
joined-breaks (broken q) w p h a b = a h

all_break : (P : ℕ → Type 0) (p : ℕ) (gs : List (Placed Fig)) → Every (λ fig. fields_of fig ≡ broken p → P p) gs → all_fields gs ≡ broken p → P p
unfolding all_fields
all_break P p [] h = λ e. broken_whole p [] (sym e)
all_break P p (fig ∷ gs) h =
    cond_both (λ (w : Walk (Placed Field)). w ≡ broken p → P p) (is_linking fig.what) (joined (fields_of fig) (all_fields gs)) (all_fields gs)
    (λ e. joined-breaks (fields_of fig) (all_fields gs) p e h.0 (all_break P p gs h.1))
    (all_break P p gs h.1)

-- the fields of a block break off in its data
pub all_fields_break : (fib : List ℕ) (gs : List (Placed Fig)) (p : ℕ) → length fib ≡ 32 → figs fib ≡ whole gs → all_fields gs ≡ broken p → p < 30
all_fields_break fib gs p l w =
    all_break (λ p. p < 30) p gs
    (figs_every (λ fig. fields_of fig ≡ broken p → p < 30) fib
    (λ fig q s e. omega (arith, s.ends, s.inside, fields_break fig p s.size e)) gs l w)

-- ---- places ascend

module _ {A : Type 0} where
  -- these stand one after the other, none before a place
  abbrev pub Ascend : ℕ → List (Placed A) → Type 0
  Ascend least [] = Unit {0}
  Ascend least (x ∷ xs) = (least ≤ x.place) × Ascend (x.place + 1) xs

  ascend_from : (p q : ℕ) (xs : List (Placed A)) → p ≤ q → Ascend q xs → Ascend p xs
  ascend_from p q [] h a = tt
  ascend_from p q (x ∷ xs) h a = (omega (arith, a.0), a.1)

  ascend_append : (p q : ℕ) (xs ys : List (Placed A)) → p ≤ q → Ascend p xs → Every (λ x. x.place < q) xs → Ascend q ys → Ascend p (xs ++ ys)
  ascend_append p q [] ys h a b c = ascend_from p q ys h c
  ascend_append p q (x ∷ xs) ys h a b c = (a.0, ascend_append (x.place + 1) q xs ys (omega (arith, b.0)) a.1 b.1 c)

  goes_ascend : (from : ℕ) (at : ℕ → Step A) → ((p : ℕ) (a : A) (q : ℕ) → at p ≡ item a q → p < q) → (p : ℕ) (xs : List (Placed A))
      → Goes from at p xs → Ascend (from + p) xs
  goes_ascend from at h p [] g = tt
  goes_ascend from at h p (x ∷ xs) g = (
    omega (arith, g.2),
    ascend_from (x.place + 1) (from + g.0) xs (omega (arith, g.2, h p x.what g.0 g.1)) (goes_ascend from at h g.0 xs g.3),
  )

-- the FIGs of a block
pub figs_ascend : (fib : List ℕ) (gs : List (Placed Fig)) → length fib ≡ 32 → figs fib ≡ whole gs → Ascend 0 gs
figs_ascend fib gs l w = goes_ascend 0 (fig_at fib) (λ p fig q e. omega (arith, (fig_item fib p fig q l e).ends)) 0 gs (figs_goes fib gs w)

-- the fields of a FIG, between its place and its end
fig_fields_ascend : (fig : Placed Fig) (fs : List (Placed Field)) → fields_of fig ≡ whole fs → Ascend fig.place fs
fig_fields_ascend fig fs e =
    ascend_from fig.place (fig.place + 1 + 1) fs (omega arith)
    (goes_ascend (fig.place + 1) (field_at fig.what.body) (λ p f q i. omega (arith, (field_item fig.what.body p f q i).from)) 1 fs (fields_goes fig fs e))

fig_fields_before : (fig : Placed Fig) (fs : List (Placed Field)) → fields_of fig ≡ whole fs
    → Every (λ f. f.place < fig.place + 1 + length fig.what.body) fs
fig_fields_before fig =
    fields_every (λ f. f.place < fig.place + 1 + length fig.what.body) fig
    (λ p f q i at. omega (arith, at, (field_item fig.what.body p f.what q i).before))

-- the fields of a block
all_ascend : (fib : List ℕ) (p : ℕ) (gs : List (Placed Fig)) → length fib ≡ 32 → Goes 0 (fig_at fib) p gs → (fs : List (Placed Field))
    → all_fields gs ≡ whole fs → Ascend p fs
unfolding all_fields
all_ascend fib p [] l g fs = λ e. subst (Ascend p) (whole_is [] fs e) tt
all_ascend fib p (fig ∷ gs) l g fs =
    let s = fig_item fib p fig.what g.0 l g.1 in
    let end' : fig.place + 1 + length fig.what.body ≡ g.0 = omega (arith, g.2, s.ends) in
    cond_both (λ (w : Walk (Placed Field)). w ≡ whole fs → Ascend p fs) (is_linking fig.what) (joined (fields_of fig) (all_fields gs)) (all_fields gs)
    (λ e. joined-whole (fields_of fig) (all_fields gs) fs e
    (λ xs ys v w q. subst (Ascend p) (sym q)
    (ascend_append p g.0 xs ys (omega (arith, s.ends)) (ascend_from p fig.place xs (omega (arith, g.2)) (fig_fields_ascend fig xs v))
    (subst (λ (n : ℕ). Every (λ f. f.place < n) xs) end' (fig_fields_before fig xs v))
    (all_ascend fib g.0 gs l g.3 ys w))))
    (λ e. ascend_from p g.0 fs (omega (arith, s.ends)) (all_ascend fib g.0 gs l g.3 fs e))

pub all_fields_ascend : (fib : List ℕ) (gs : List (Placed Fig)) (fs : List (Placed Field)) → length fib ≡ 32 → figs fib ≡ whole gs
    → all_fields gs ≡ whole fs → Ascend 0 fs
all_fields_ascend fib gs fs l w = all_ascend fib 0 gs l (figs_goes fib gs w) fs
