-- The fields of a taken block. In this order: a walk that reaches the end, step by step, and back; the FIGs of a block and the
-- fields of a FIG, by their places; that a block has at most 14 fields; what the bits of a field are, of bytes below 256; what
-- a field of a taken block is besides.
use Prim.Native.Nat.{ℕ, zero, suc, ◌+◌, ◌*◌, ◌/◌, ◌%◌, ◌^◌, ◌≤◌, ◌<◌}
use native.Mathlib.Omega.{arith}
use native.Mathlib.Nat.{pow-succ', zero-add, le-mul_of_pos_right, mul_assoc, pow-le-pow_right}
use mathlib.Core.Path.{◌≡◌, refl, sym, ◌∙◌, ap, subst}
use mathlib.Core.Bool.{Bool, true, false, not, ◌&&◌}
use mathlib.Core.List.{List, [], ◌∷◌, ◌++◌, map}
use lib.ListN.{length, get_or, take, drop, length-append, length-take, length-drop, length-map}
use lib.Dec.{leb, ltb, eqb}
use borrow.Author.Tests.{ltb-true, ltb-false, leb-false, eqb-true, eqb-false, eq-eqb, not-false}
use Rattle.rules.specs.declared.Outcome.{Outcome}
use Rattle.rules.specs.Block.{Step, item, end, wrong, Placed, what_of, Walk, whole, broken, after, walk, Fig, fig_at, figs, check_holds}
use Rattle.rules.specs.Field.{Field, is_linking, width, big_endian, identifiers, short_field, list_field, list_bytes, field_at, fields_of, has_list, is_continuation, wrong_value, empty_start}
use Rattle.rules.specs.Outcomes.{Verdict, taken, refused, no_block, joined, all_fields, some?, judge_fields, judge_figs, verdict}
use Rattle.rules.proofs.Basics.{cases_bool, or_false_left, or_false_right, or_five, cond_cases, cond_both, Every, every_imp, every_both, every_append, every_map, every_take, every_drop, every_at}

-- ---- walks

module _ {A : Type 0} where
  pub cases_step {ℓ} : {C : Type ℓ} (s : Step A) → ((a : A) (q : ℕ) → s ≡ item a q → C) → (s ≡ end → C) → (s ≡ wrong → C) → C
  cases_step (item a q) i e w = i a q refl
  cases_step end i e w = e refl
  cases_step wrong i e w = w refl

  pub cases-walk {ℓ} : {C : Type ℓ} (w : Walk A) → ((xs : List A) → w ≡ whole xs → C) → ((p : ℕ) → w ≡ broken p → C) → C
  cases-walk (whole xs) h b = h xs refl
  cases-walk (broken p) h b = b p refl

  pub end_item {ℓ} : {C : Type ℓ} (a : A) (q : ℕ) → ◌≡◌ {A = Step A} end (item a q) → C
  end_item a q h = let z : ◌≡◌ {A = ℕ} 0 1 = cc in absurd (omega arith)

  pub wrong_item {ℓ} : {C : Type ℓ} (a : A) (q : ℕ) → ◌≡◌ {A = Step A} wrong (item a q) → C
  wrong_item a q h = let z : ◌≡◌ {A = ℕ} 0 1 = cc in absurd (omega arith)

  pub broken_whole {ℓ} : {C : Type ℓ} (p : ℕ) (xs : List A) → ◌≡◌ {A = Walk A} (broken p) (whole xs) → C
  broken_whole p xs h = let z : ◌≡◌ {A = ℕ} 0 1 = cc in absurd (omega arith)

  -- an item that is another at the same place
  pub item-along {ℓ} : (P : A → ℕ → Type ℓ) (a b : A) (p q : ℕ) → ◌≡◌ {A = Step A} (item a p) (item b q) → P a p → P b q
  item-along P a b p q h x =
      let e : a ≡ b = cc in
      let f : p ≡ q = cc in
      subst (P b) f (subst (λ (c : A). P c p) e x)

  pub whole_is : (xs ys : List A) → ◌≡◌ {A = Walk A} (whole xs) (whole ys) → xs ≡ ys
  whole_is xs ys h = cc

-- a step of a walk, by what stands at the place; places are counted from the block's byte from
module _ {A : Type 0} (from : ℕ) (at : ℕ → Step A) where
  pub walk_item : (n p : ℕ) (a : A) (q : ℕ) → at p ≡ item a q
      → walk from at (suc n) p ≡ after (record { place = from + p; what = a }) (walk from at n q)
  unfolding walk
  walk_item n p a q e = rw (e, walk)

  pub walk_end : (n p : ℕ) → at p ≡ end → walk from at (suc n) p ≡ whole []
  unfolding walk
  walk_end n p e = rw (e, walk)

  pub walk_wrong : (n p : ℕ) → at p ≡ wrong → walk from at (suc n) p ≡ broken (from + p)
  unfolding walk
  walk_wrong n p e = rw (e, walk)

  -- these are the items from a place on, up to the end, each at its place
  abbrev pub Goes : ℕ → List (Placed A) → Type 0
  Goes p [] = at p ≡ end
  Goes p (x ∷ xs) = (q : ℕ) × (at p ≡ item x.what q) × (x.place ≡ from + p) × Goes q xs

  -- a walk that finds them all is such
  pub walk_goes : (n p : ℕ) (xs : List (Placed A)) → walk from at n p ≡ whole xs → Goes p xs
  unfolding after
  walk_goes zero p xs h = broken_whole (from + p) xs (unfold walk in h)
  walk_goes (suc n) p xs h =
      cases_step (at p)
      (λ a q e. cases-walk (walk from at n q)
      (λ ys w. subst (Goes p) (whole_is _ xs (sym (walk_item n p a q e ∙ ap (after _) w) ∙ h)) (q, e, refl, walk_goes n q ys w))
      (λ r w. broken_whole r xs (sym (walk_item n p a q e ∙ ap (after _) w) ∙ h)))
      (λ e. subst (Goes p) (whole_is [] xs (sym (walk_end n p e) ∙ h)) e)
      (λ e. broken_whole (from + p) xs (sym (walk_wrong n p e) ∙ h))

  -- what every item that stands somewhere has
  pub goes_every : (P : Placed A → Type 0) → ((p : ℕ) (x : Placed A) (q : ℕ) → at p ≡ item x.what q → x.place ≡ from + p → P x)
      → (p : ℕ) (xs : List (Placed A)) → Goes p xs → Every P xs
  goes_every P h p [] g = tt
  goes_every P h p (x ∷ xs) g = (h p x g.0 g.1 g.2, goes_every P h g.0 xs g.3)

-- the same where they are counted from the block's first byte
module _ {A : Type 0} (at : ℕ → Step A) (n p : ℕ) where
  pub block_item : (a : A) (q : ℕ) → at p ≡ item a q → walk 0 at (suc n) p ≡ after (record { place = p; what = a }) (walk 0 at n q)
  block_item a q e = walk_item 0 at n p a q e ∙ ap (λ (r : ℕ). after (record { place = r; what = a }) (walk 0 at n q)) (zero-add p)

  pub block_wrong : at p ≡ wrong → walk 0 at (suc n) p ≡ broken p
  block_wrong e = walk_wrong 0 at n p e ∙ ap broken (zero-add p)

-- ---- the FIGs of a block, and the fields of a FIG, by their places

-- bytes are below 256
abbrev pub Bytes : List ℕ → Type 0
Bytes bs = Every (λ b. b < 256) bs

-- a FIG at a place: its body is inside the block's 30 bytes of data, and not empty
pub record FigStands (fib : List ℕ) (p : ℕ) (fig : Fig) (q : ℕ) : Type 0 where
  pub before : p < 30
  pub size : 1 ≤ length fig.body
  pub ends : q ≡ p + 1 + length fig.body
  pub inside : q ≤ 30
  pub part : fig.body ≡ take (length fig.body) (drop (p + 1) fib)

fig_stands : (fib : List ℕ) (p m : ℕ) → length fib ≡ 32 → leb 30 p ≡ false → eqb m 0 ≡ false → ltb 30 (p + 1 + m) ≡ false
    → FigStands fib p (record { type = get_or fib p 0 / 32; body = take m (drop (p + 1) fib) }) (p + 1 + m)
fig_stands fib p m l h z i =
    let s : length (take m (drop (p + 1) fib)) ≡ m =
    length-take m (drop (p + 1) fib) ∙ omega (arith, length-drop (p + 1) fib, ltb-false 30 (p + 1 + m) i) in
    record {
      before = omega (arith, leb-false 30 p h);
      size = omega (arith, eqb-false m 0 z);
      ends = omega arith;
      inside = ltb-false 30 (p + 1 + m) i;
      part = ap (λ (n : ℕ). take n (drop (p + 1) fib)) (sym s);
    }

pub fig_item : (fib : List ℕ) (p : ℕ) (fig : Fig) (q : ℕ) → length fib ≡ 32 → fig_at fib p ≡ item fig q → FigStands fib p fig q
unfolding fig_at
fig_item fib p fig q l =
    cond_cases (λ (s : Step Fig). s ≡ item fig q → FigStands fib p fig q) (leb 30 p) end _ (λ h e. end_item fig q e) (λ h.
    cond_cases (λ (s : Step Fig). s ≡ item fig q → FigStands fib p fig q) (eqb (get_or fib p 0) 255) end _ (λ f e. end_item fig q e) (λ f.
    cond_cases (λ (s : Step Fig). s ≡ item fig q → FigStands fib p fig q) (eqb (get_or fib p 0 % 32) 0) wrong _ (λ z e. wrong_item fig q e) (λ z.
    cond_cases (λ (s : Step Fig). s ≡ item fig q → FigStands fib p fig q) (ltb 30 (p + 1 + get_or fib p 0 % 32)) wrong _ (λ i e. wrong_item fig q e)
    (λ i e. item-along (FigStands fib p) _ fig _ q e (fig_stands fib p (get_or fib p 0 % 32) l h z i)))))

-- the FIGs of a block are within its 30 bytes of data, each with one byte in front
unfoldable pub fig_bytes_in : List (Placed Fig) → ℕ
fig_bytes_in [] = 0
fig_bytes_in (fig ∷ gs) = 1 + length fig.what.body + fig_bytes_in gs

pub figs_inside : (fib : List ℕ) (p : ℕ) (gs : List (Placed Fig)) → length fib ≡ 32 → p ≤ 30 → Goes 0 (fig_at fib) p gs → p + fig_bytes_in gs ≤ 30
unfolding fig_bytes_in
figs_inside fib p [] l h g = omega arith
figs_inside fib p (fig ∷ gs) l h g =
    let s = fig_item fib p fig.what g.0 l g.1 in
    omega (arith, figs_inside fib g.0 gs l s.inside g.3, s.ends)

pub figs_goes : (fib : List ℕ) (gs : List (Placed Fig)) → figs fib ≡ whole gs → Goes 0 (fig_at fib) 0 gs
unfolding figs
figs_goes fib gs h = walk_goes 0 (fig_at fib) 31 0 gs h

-- what stands at the place of each FIG of a block is that FIG
pub figs_at : (fib : List ℕ) (gs : List (Placed Fig)) → figs fib ≡ whole gs
    → Every (λ fig. (q : ℕ) × (fig_at fib fig.place ≡ item fig.what q)) gs
figs_at fib gs h = goes_every 0 (fig_at fib) _ (λ p fig q e s. (q, ap (fig_at fib) (s ∙ zero-add p) ∙ e)) 0 gs (figs_goes fib gs h)

pub figs_every : (P : Placed Fig → Type 0) (fib : List ℕ) → ((fig : Placed Fig) (q : ℕ) → FigStands fib fig.place fig.what q → P fig)
    → (gs : List (Placed Fig)) → length fib ≡ 32 → figs fib ≡ whole gs → Every P gs
figs_every P fib h gs l w = every_imp _ P (λ fig s. h fig s.0 (fig_item fib fig.place fig.what s.0 l s.1)) gs (figs_at fib gs w)

pub body_bytes : (fib : List ℕ) (p : ℕ) (fig : Fig) (q : ℕ) → Bytes fib → FigStands fib p fig q → Bytes fig.body
body_bytes fib p fig q b s =
    rw s.part (every_take (λ b. b < 256) (length fig.body) (drop (p + 1) fib) (every_drop (λ b. b < 256) (p + 1) fib b))

-- what the bits of a field are
pub record FieldBits (f : Field) : Type 0 where
  pub cn : f.cn < 2
  pub oe : f.oe < 2
  pub pd : f.pd < 2
  pub flag : f.flag < 2
  pub la : f.la < 2
  pub hard : f.hard < 2
  pub ils : f.ils < 2
  pub lsn : f.lsn < 4096
  pub rfu : f.rfu < 2
  pub qualifier : f.qualifier < 4
  pub shorthand : f.shorthand < 2
  pub few : length f.numbers ≤ 15
  pub within : Every (λ n. n < 256 ^ width f.pd f.ils) f.numbers

pub pow_some : (k : ℕ) → 0 < 256 ^ k
pow_some k = pow-le-pow_right {n = 256} (omega arith) {i = 0} {j = k} (omega arith)

-- a number of at most k bytes after a number below m
pub big_endian_below : (n m : ℕ) (bs : List ℕ) (k : ℕ) → n < m → length bs ≤ k → Bytes bs → big_endian n bs < m * 256 ^ k
unfolding big_endian
big_endian_below n m [] k h l b = omega (arith, le-mul_of_pos_right m (pow_some k))
big_endian_below n m (x ∷ bs) zero h l b = absurd (omega arith)
big_endian_below n m (x ∷ bs) (suc k) h l b =
    rw (pow-succ' 256 k) (rw (← mul_assoc m 256 (256 ^ k)) (big_endian_below (n * 256 + x) (m * 256) bs k (omega (arith, b.0)) (omega arith) b.1))

pub length_identifiers : (w n : ℕ) (bs : List ℕ) → length (identifiers w n bs) ≡ n
unfolding identifiers
length_identifiers w zero bs = refl
length_identifiers w (suc n) bs = ap suc (length_identifiers w n (drop w bs))

pub identifiers_below : (w n : ℕ) (bs : List ℕ) → Bytes bs → Every (λ x. x < 256 ^ w) (identifiers w n bs)
unfolding identifiers
identifiers_below w zero bs b = tt
identifiers_below w (suc n) bs b = (
  omega (arith, big_endian_below 0 1 (take w bs) w (omega arith) (omega (arith, length-take w bs)) (every_take (λ b. b < 256) w bs b)),
  identifiers_below w n (drop w bs) (every_drop (λ b. b < 256) w bs b),
)

pub short_bits : (h a b : ℕ) → h < 256 → a < 256 → b < 256 → FieldBits (short_field h a b)
unfolding short_field
short_bits h a b p q r =
    record {
      cn = omega arith;
      oe = omega arith;
      pd = omega arith;
      flag = omega arith;
      la = omega arith;
      hard = omega arith;
      ils = omega arith;
      lsn = omega arith;
      rfu = omega arith;
      qualifier = omega arith;
      shorthand = omega arith;
      few = omega arith;
      within = tt;
    }

pub list_bits : (h a b c : ℕ) (rest : List ℕ) → h < 256 → a < 256 → b < 256 → c < 256 → Bytes rest → FieldBits (list_field h a b c rest)
unfolding list_field
list_bits h a b c rest p q r s t =
    record {
      cn = omega arith;
      oe = omega arith;
      pd = omega arith;
      flag = omega arith;
      la = omega arith;
      hard = omega arith;
      ils = omega arith;
      lsn = omega arith;
      rfu = omega arith;
      qualifier = omega arith;
      shorthand = omega arith;
      few = omega (arith, length_identifiers (width (h / 32 % 2) (a / 16 % 2)) (c % 16) rest);
      within = identifiers_below (width (h / 32 % 2) (a / 16 % 2)) (c % 16) rest t;
    }

-- a field at a place of a FIG's body: it has two bytes at least, all in the body
pub record FieldStands (body : List ℕ) (p : ℕ) (f : Field) (q : ℕ) : Type 0 where
  pub before : p < length body
  pub from : p + 2 ≤ q
  pub inside : q ≤ length body
  pub bits : Bytes body → FieldBits f

pub field_item : (body : List ℕ) (p : ℕ) (f : Field) (q : ℕ) → field_at body p ≡ item f q → FieldStands body p f q
unfolding field_at
field_item body p f q =
    let at : Bytes body → (i : ℕ) → get_or body i 0 < 256 = λ b i. every_at (λ b. b < 256) 0 (omega arith) body b i in
    cond_cases (λ (s : Step Field). s ≡ item f q → FieldStands body p f q) (leb (length body) p) end _ (λ h e. end_item f q e) (λ h.
    cond_cases (λ (s : Step Field). s ≡ item f q → FieldStands body p f q) (ltb (length body) (p + 2)) wrong _ (λ t e. wrong_item f q e) (λ t.
    cond_cases (λ (s : Step Field). s ≡ item f q → FieldStands body p f q) (ltb (get_or body p 0) 128) _ _
    (λ i e. item-along (FieldStands body p) _ f _ q e
    (record {
      before = leb-false (length body) p h;
      from = omega arith;
      inside = ltb-false (length body) (p + 2) t;
      bits = λ b. short_bits (get_or body 0 0) (get_or body p 0) (get_or body (p + 1) 0) (at b 0) (at b p) (at b (p + 1));
    }))
    (λ i.
    cond_cases (λ (s : Step Field). s ≡ item f q → FieldStands body p f q) (ltb (length body) (p + 3)) wrong _ (λ u e. wrong_item f q e) (λ u.
    cond_cases (λ (s : Step Field). s ≡ item f q → FieldStands body p f q)
    (ltb (length body) (p + 3 + list_bytes (get_or body 0 0) (get_or body p 0) (get_or body (p + 2) 0))) wrong _ (λ v e. wrong_item f q e)
    (λ v e. item-along (FieldStands body p) _ f _ q e
    (record {
      before = leb-false (length body) p h;
      from = omega arith;
      inside = ltb-false (length body) (p + 3 + list_bytes (get_or body 0 0) (get_or body p 0) (get_or body (p + 2) 0)) v;
      bits = λ b. list_bits (get_or body 0 0) (get_or body p 0) (get_or body (p + 1) 0) (get_or body (p + 2) 0) (drop (p + 3) body)
          (at b 0) (at b p) (at b (p + 1)) (at b (p + 2)) (every_drop (λ b. b < 256) (p + 3) body b);
    }))))))

-- ---- all fields of a block

-- fields take two bytes each at least
pub fields_inside : (from : ℕ) (body : List ℕ) (p : ℕ) (fs : List (Placed Field)) → p ≤ length body → Goes from (field_at body) p fs
    → p + 2 * length fs ≤ length body
fields_inside from body p [] h g = omega arith
fields_inside from body p (f ∷ fs) h g =
    let s = field_item body p f.what g.0 g.1 in
    omega (arith, fields_inside from body g.0 fs s.inside g.3, s.from)

-- the fields of a FIG, from its body's second byte on
pub fields_goes : (fig : Placed Fig) (fs : List (Placed Field)) → fields_of fig ≡ whole fs → Goes (fig.place + 1) (field_at fig.what.body) 1 fs
unfolding fields_of
fields_goes fig fs h = walk_goes (fig.place + 1) (field_at fig.what.body) (length fig.what.body) 1 fs h

pub fields_fit : (fig : Placed Fig) (fs : List (Placed Field)) → 1 ≤ length fig.what.body → fields_of fig ≡ whole fs
    → 1 + 2 * length fs ≤ length fig.what.body
fields_fit fig fs s h = fields_inside (fig.place + 1) fig.what.body 1 fs s (fields_goes fig fs h)

-- what every field that stands in a FIG has
pub fields_every : (P : Placed Field → Type 0) (fig : Placed Fig)
    → ((p : ℕ) (f : Placed Field) (q : ℕ) → field_at fig.what.body p ≡ item f.what q → f.place ≡ fig.place + 1 + p → P f)
    → (fs : List (Placed Field)) → fields_of fig ≡ whole fs → Every P fs
fields_every P fig h fs e = goes_every (fig.place + 1) (field_at fig.what.body) P h 1 fs (fields_goes fig fs e)

-- two walks, one after the other
pub joined-whole {ℓ} : {A : Type 0} {C : Type ℓ} (v w : Walk A) (zs : List A) → joined v w ≡ whole zs
    → ((xs ys : List A) → v ≡ whole xs → w ≡ whole ys → zs ≡ xs ++ ys → C) → C
unfolding joined
joined-whole (whole xs) (whole ys) zs h c = c xs ys refl refl (sym (whole_is (xs ++ ys) zs h))
joined-whole (whole xs) (broken p) zs h c = broken_whole p zs h
joined-whole (broken p) w zs h c = broken_whole p zs h

-- what the fields of every linking FIG have
pub all_every : (P : Placed Field → Type 0) (gs : List (Placed Fig))
    → Every (λ fig. (fs : List (Placed Field)) → fields_of fig ≡ whole fs → Every P fs) gs
    → (fs : List (Placed Field)) → all_fields gs ≡ whole fs → Every P fs
unfolding all_fields
all_every P [] h fs = λ e. subst (Every P) (whole_is [] fs e) tt
all_every P (fig ∷ gs) h fs =
    cond_both (λ (w : Walk (Placed Field)). w ≡ whole fs → Every P fs) (is_linking fig.what) (joined (fields_of fig) (all_fields gs)) (all_fields gs)
    (λ e. joined-whole (fields_of fig) (all_fields gs) fs e
    (λ xs ys v w q. subst (Every P) (sym q) (every_append P xs ys (h.0 xs v) (all_every P gs h.1 ys w))))
    (all_every P gs h.1 fs)

-- two bytes for each field, and two more for a FIG that has one
pub all_fit : (gs : List (Placed Fig)) → Every (λ fig. 1 ≤ length fig.what.body) gs → (fs : List (Placed Field)) → all_fields gs ≡ whole fs
    → 1 ≤ length fs → 2 + 2 * length fs ≤ fig_bytes_in gs
unfolding all_fields fig_bytes_in
all_fit [] h fs = λ e l. absurd (omega (arith, ap length (whole_is [] fs e)))
all_fit (fig ∷ gs) h fs =
    cond_both (λ (w : Walk (Placed Field)). w ≡ whole fs → 1 ≤ length fs → 2 + 2 * length fs ≤ 1 + length fig.what.body + fig_bytes_in gs)
    (is_linking fig.what) (joined (fields_of fig) (all_fields gs)) (all_fields gs)
    (λ e l. joined-whole (fields_of fig) (all_fields gs) fs e
    (λ xs ys v w q.
    let n = ap length q ∙ length-append xs ys in
    let one = fields_fit fig xs h.0 v in
    cases_bool (ltb (length ys) 1)
    (λ z. omega (arith, ltb-true (length ys) 1 z))
    (λ z. omega (arith, all_fit gs h.1 ys w (ltb-false (length ys) 1 z)))))
    (λ e l. omega (arith, all_fit gs h.1 fs e l))

-- ---- a taken block

pub record TakenBlock (fib : List ℕ) (fs : List Field) : Type 0 where
  pub size : length fib ≡ 32
  pub check : check_holds fib ≡ true
  pub parts : List (Placed Fig)
  pub walked : figs fib ≡ whole parts
  pub fields : List (Placed Field)
  pub filled : all_fields parts ≡ whole fields
  pub values : some? wrong_value fields ≡ false
  pub starts : some? empty_start fields ≡ false
  pub are : map what_of fields ≡ fs

pub refused_taken {ℓ} : {C : Type ℓ} (o : Outcome) (p : ℕ) (fs : List Field) → ◌≡◌ {A = Verdict} (refused o p) (taken fs) → C
refused_taken o p fs h = let z : ◌≡◌ {A = ℕ} 0 1 = cc in absurd (omega arith)

pub no_block_taken {ℓ} : {C : Type ℓ} (fs : List Field) → ◌≡◌ {A = Verdict} no_block (taken fs) → C
no_block_taken fs h = let z : ◌≡◌ {A = ℕ} 0 1 = cc in absurd (omega arith)

pub fields-taken {ℓ} : {C : Type ℓ} (w : Walk (Placed Field)) (fs : List Field) → judge_fields w ≡ taken fs
    → ((xs : List (Placed Field)) → w ≡ whole xs → some? wrong_value xs ≡ false → some? empty_start xs ≡ false → map what_of xs ≡ fs → C) → C
unfolding judge_fields
fields-taken (broken p) fs h c = refused_taken _ _ fs h
fields-taken {C = C} (whole xs) fs h c =
    cond_cases (λ (v : Verdict). v ≡ taken fs → C) (some? wrong_value xs) _ _ (λ v e. refused_taken _ _ fs e) (λ v.
    cond_cases (λ (v : Verdict). v ≡ taken fs → C) (some? empty_start xs) _ _ (λ s e. refused_taken _ _ fs e) (λ s e. c xs refl v s cc))
    h

pub figs-taken {ℓ} : {C : Type ℓ} (w : Walk (Placed Fig)) (fs : List Field) → judge_figs w ≡ taken fs
    → ((gs : List (Placed Fig)) → w ≡ whole gs → judge_fields (all_fields gs) ≡ taken fs → C) → C
unfolding judge_figs
figs-taken (broken p) fs h c = refused_taken _ _ fs h
figs-taken (whole gs) fs h c = c gs refl h

-- what is known of a block that is taken
pub taken_block : (fib : List ℕ) (fs : List Field) → verdict fib ≡ taken fs → TakenBlock fib fs
unfolding verdict
taken_block fib fs =
    cond_cases (λ (v : Verdict). v ≡ taken fs → TakenBlock fib fs) (eqb (length fib) 32) _ _
    (λ l. cond_cases (λ (v : Verdict). v ≡ taken fs → TakenBlock fib fs) (check_holds fib) _ _
    (λ c e. figs-taken (figs fib) fs e (λ gs w j.
    fields-taken (all_fields gs) fs j (λ xs f v s a.
    record {
      size = eqb-true (length fib) 32 l;
      check = c;
      parts = gs;
      walked = w;
      fields = xs;
      filled = f;
      values = v;
      starts = s;
      are = a;
    })))
    (λ c e. refused_taken _ _ fs e))
    (λ l e. no_block_taken fs e)

-- a taken block has at most 14 fields
pub taken_few : (fib : List ℕ) (fs : List Field) → verdict fib ≡ taken fs → length fs ≤ 14
taken_few fib fs h =
    let b = taken_block fib fs h in
    let n = figs_inside fib 0 b.parts b.size (omega arith) (figs_goes fib b.parts b.walked) in
    let many = sym (length-map b.fields what_of) ∙ ap length b.are in
    let sizes = figs_every (λ fig. 1 ≤ length fig.what.body) fib (λ fig q s. s.size) b.parts b.size b.walked in
    cases_bool (ltb (length fs) 1)
    (λ z. omega (arith, ltb-true (length fs) 1 z))
    (λ z. omega (arith, n, many, all_fit b.parts sizes b.fields b.filled (omega (arith, many, ltb-false (length fs) 1 z))))

-- ---- a field of a taken block

pub record GoodField (f : Field) : Type 0 where
  pub bits : FieldBits f
  pub lsn : f.lsn ≡ 0 → ⊥
  pub rfu : f.rfu ≡ 0
  pub shorthand : f.shorthand ≡ 0
  pub reserved : f.qualifier ≡ 2 → ⊥
  pub data_dab : f.pd ≡ 1 → f.qualifier ≡ 0
  pub start : has_list f ≡ true → is_continuation f ≡ false → 1 ≤ length f.numbers

pub none_of : (p : Field → Bool) (fs : List (Placed Field)) → some? p fs ≡ false → Every (λ f. p f.what ≡ false) fs
unfolding some?
none_of p [] h = tt
none_of p (f ∷ fs) h = (or_false_left (p f.what) (some? p fs) h, none_of p fs (or_false_right (p f.what) (some? p fs) h))

pub data_field : (f : Field) → (eqb f.pd 1 && not (eqb f.qualifier 0)) ≡ false → f.pd ≡ 1 → f.qualifier ≡ 0
data_field f h p =
    eqb-true f.qualifier 0
    (not-false (eqb f.qualifier 0) (rw (eq-eqb f.pd 1 p) at h))

pub good_start : (f : Field) → empty_start f ≡ false → has_list f ≡ true → is_continuation f ≡ false → 1 ≤ length f.numbers
unfolding empty_start
good_start f s h c =
    let z : eqb (length f.numbers) 0 ≡ false = rw (h, c) at s in
    omega (arith, eqb-false (length f.numbers) 0 z)

pub good_field : (f : Field) → FieldBits f → wrong_value f ≡ false → empty_start f ≡ false → GoodField f
unfolding wrong_value
good_field f b v s =
    let w = or_five (eqb f.lsn 0) (eqb f.rfu 1) (eqb f.shorthand 1) (eqb f.qualifier 2) (eqb f.pd 1 && not (eqb f.qualifier 0)) v in
    record {
      bits = b;
      lsn = eqb-false f.lsn 0 w.0;
      rfu = omega (arith, b.rfu, eqb-false f.rfu 1 w.1);
      shorthand = omega (arith, b.shorthand, eqb-false f.shorthand 1 w.2);
      reserved = eqb-false f.qualifier 2 w.3;
      data_dab = data_field f w.4;
      start = good_start f s;
    }

-- every field of a taken block of bytes is such
pub taken_good : (fib : List ℕ) (fs : List Field) → Bytes fib → verdict fib ≡ taken fs → Every GoodField fs
taken_good fib fs bytes h =
    let b = taken_block fib fs h in
    let Bits : Placed Field → Type 0 = λ f. FieldBits f.what in
    let Right : Placed Field → Type 0 = λ f. (wrong_value f.what ≡ false) × (empty_start f.what ≡ false) in
    let bits : Every Bits b.fields =
    all_every Bits b.parts
    (figs_every (λ fig. (xs : List (Placed Field)) → fields_of fig ≡ whole xs → Every Bits xs) fib
    (λ fig q s. fields_every Bits fig (λ p f r e at. (field_item fig.what.body p f.what r e).bits (body_bytes fib fig.place fig.what q bytes s)))
    b.parts b.size b.walked)
    b.fields b.filled in
    let right : Every Right b.fields =
    every_both _ _ Right (λ f v s. (v, s)) b.fields (none_of wrong_value b.fields b.values) (none_of empty_start b.fields b.starts) in
    subst (Every GoodField) b.are
    (every_map GoodField what_of b.fields
    (every_both Bits Right (λ f. GoodField f.what) (λ f c r. good_field f.what c r.0 r.1) b.fields bits right))
