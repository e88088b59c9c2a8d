-- What the functions of this crate mean by the rules, in this order: the field at a place; the ranges of a field that was
-- found; what a field says; its identifiers, one at a time.
use Prim.Native.Nat.{ℕ, suc, ◌+◌, ◌*◌, ◌/◌, ◌%◌, ◌≤◌, ◌<◌}
use native.Mathlib.Omega.{arith}
use native.Mathlib.Nat.{add-zero, zero-mul, suc-mul, mul-le-mul_right}
use mathlib.Core.Path.{◌≡◌, refl, ap, sym, ◌∙◌, subst₂}
use mathlib.Core.Bool.{Bool, true, false, cond, not}
use mathlib.Core.List.{List, [], ◌∷◌}
use lib.ListN.{length, get_or, drop, drop_of_length-le}
use lib.Seq.{drop-cons, drop-drop}
use lib.Dec.{leb, ltb, eqb}
use borrow.Author.Tests.{ltb-false, lt-leb}
use Rattle.rules.specs.Field.{pair, dab, width, identifiers, short_field, list_field, list_bytes, field_at, key_of, has_list, is_continuation, first_kind, pairs_of, wrong_value, empty_start}
use Rattle.rules.proofs.Taken.{length_identifiers}
use Rattle.rules.proofs.Basics.{cases_bool, not_first, cond_both, cond_ap}
use Rattle.field.specs.declared.Service.{Service}
use Rattle.field.specs.declared.Identifier.TheVariants.{Dab}
use Rattle.field.specs.declared.Field.{Field}
use Rattle.field.specs.declared.FieldStep.TheVariants.{Found, End, Wrong}
use Rattle.field.specs.FieldStep.{head_of, field_step_at, meaning, found, key_in, has_list_in, continues, wrong_in, empty_in, number_at, kind_at, of_kind, identifier_at, pair_of, pairs_from}
use Rattle.field.proofs.Numbers.{bytes_at_within, width_range}
use Rattle.field.proofs.Identifiers.{identifiers_at, length_pairs, pairs_at, of_kind_pair}

-- ---- the field at a place

pub field_step_at_means : (body : List ℕ) (at : ℕ) → found body (field_step_at body at) ≡ field_at body at
unfolding field_step_at found meaning field_at short_field list_field list_bytes identifiers
field_step_at_means body at = simp (cond_ap (found body))

-- ---- ranges

-- how large the parts of a field are, and that a body has its identifiers
pub record InBody (body : List ℕ) (f : Field) : Type 0 where
  pub holds : f.from + f.count * width f.pd f.ils ≤ length body
  pub count : f.count < 16
  pub cn : f.cn ≤ 1
  pub oe : f.oe ≤ 1
  pub pd : f.pd ≤ 1
  pub flag : f.flag ≤ 1
  pub la : f.la ≤ 1
  pub hard : f.hard ≤ 1
  pub ils : f.ils ≤ 1
  pub lsn : f.lsn < 4096
  pub rfu : f.rfu ≤ 1
  pub qualifier : f.qualifier < 4
  pub shorthand : f.shorthand ≤ 1

-- the same of a field found at a place, and where the next begins
pub record Reached (body : List ℕ) (at : ℕ) (f : Field) (next : ℕ) : Type 0 where
  pub goes_on_law : at + 2 ≤ next
  pub within : next ≤ length body
  pub field : InBody body f

head_ranges :
    (body : List ℕ) (at next flag h a b c from : ℕ) → flag ≤ 1 → h < 256 → b < 256 → c < 256 → at + 2 ≤ next → next ≤ length body
    → from + c % 16 * width (h / 32 % 2) (a / 16 % 2) ≤ length body → Reached body at (head_of flag h a b c from) next
head_ranges body at next flag h a b c from bit hh hb hc on inside fits = omega arith

-- a choice that came out as v, by its two sides
either : {A C : Type 0} (b : Bool) {x y v : A} → cond b x y ≡ v → (x ≡ v → C) → (y ≡ v → C) → C
either true e f g = f e
either false e f g = g e

module _ (body : List ℕ) (at : ℕ) (f : Field) (next : ℕ) where
  no_end : End ≡ Found f next → ⊥
  no_end e = let z : ◌≡◌ {A = ℕ} 0 1 = cc in omega arith

  no_wrong : Wrong ≡ Found f next → ⊥
  no_wrong e = let z : ◌≡◌ {A = ℕ} 0 1 = cc in omega arith

  as_found : (g : Field) (n : ℕ) → Found g n ≡ Found f next → Reached body at g n → Reached body at f next
  as_found g n p r =
      let same : g ≡ f = cc in
      let goes : n ≡ next = cc in
      subst₂ (λ (x : Field) (m : ℕ). Reached body at x m) same goes r

  module _ (bytes : (i : ℕ) → get_or body i 0 < 256) where
    pub field_step_at_range : field_step_at body at ≡ Found f next → Reached body at f next
    unfolding field_step_at list_bytes
    field_step_at_range e =
        let h = get_or body 0 0 in
        let a = get_or body at 0 in
        let b = get_or body (at + 1) 0 in
        let c = get_or body (at + 2) 0 in
        let one = not_first (leb (length body) at) no_end e in
        let two = not_first (ltb (length body) (at + 2)) no_wrong one.1 in
        either (ltb a 128) two.1
        (λ p. as_found (head_of 0 h a b 0 (at + 2)) (at + 2) p
        (head_ranges body at (at + 2) 0 h a b 0 (at + 2) (omega arith) (bytes 0) (bytes (at + 1)) (omega arith) (omega arith)
        (ltb-false _ _ two.0) (rw (zero-mul, add-zero) (ltb-false _ _ two.0))))
        (λ p.
        let three = not_first (ltb (length body) (at + 3)) no_wrong p in
        let fits = not_first (ltb (length body) (at + 3 + list_bytes h a c)) no_wrong three.1 in
        as_found (head_of 1 h a b c (at + 3)) (at + 3 + list_bytes h a c) fits.1
        (head_ranges body at (at + 3 + list_bytes h a c) 1 h a b c (at + 3) (omega arith) (bytes 0) (bytes (at + 1)) (bytes (at + 2))
        (omega arith) (ltb-false _ _ fits.0) (ltb-false _ _ fits.0)))

-- ---- what a field says

module _ (body : List ℕ) (f : Field) where
  -- nothing above cites it, since both compute to the same: it stops who changes a key's bits in code and definition alike
  pub key_means : key_in f ≡ key_of (meaning body f)
  unfolding key_of meaning
  key_means = refl

  pub has_list_means : has_list_in f ≡ has_list (meaning body f)
  unfolding has_list meaning
  has_list_means = refl

  pub is_continuation_means : continues f ≡ is_continuation (meaning body f)
  unfolding is_continuation meaning
  is_continuation_means = refl

  pub wrong_value_means : wrong_in f ≡ wrong_value (meaning body f)
  unfolding wrong_in wrong_value meaning
  wrong_value_means = refl

  pub empty_start_means : empty_in f ≡ empty_start (meaning body f)
  unfolding empty_in empty_start has_list is_continuation meaning
  empty_start_means = rw length_identifiers

-- ---- its identifiers

-- the kind of a start's first is one that there is, where the qualifier is
first_range : (oe q : ℕ) → q < 4 → (q ≡ 2 → ⊥) → (first_kind oe q < 4) × (first_kind oe q ≡ 2 → ⊥)
unfolding first_kind
first_range oe q h not = cond_both (λ (k : ℕ). (k < 4) × (k ≡ 2 → ⊥)) (eqb oe 1) q dab (h, not) (omega arith)

-- and so is the kind at an index
kind_at_range : (f : Field) (i : ℕ) → f.qualifier < 4 → (f.qualifier ≡ 2 → ⊥) → (kind_at f i < 4) × (kind_at f i ≡ 2 → ⊥)
unfolding kind_at
kind_at_range f i h not = go (eqb f.cn 1) (eqb i 0)
  where
    first : ℕ
    first = first_kind f.oe f.qualifier

    go : (b d : Bool) → (cond b f.qualifier (cond d first f.qualifier) < 4) × (cond b f.qualifier (cond d first f.qualifier) ≡ 2 → ⊥)
    go true d = (h, not)
    go false true = first_range f.oe f.qualifier h not
    go false false = (h, not)

-- the guard, by the type: with OE 0 the first identifier of a start is a DAB service, whatever its qualifier and its number
pub first_service : (body : List ℕ) (f : Field) → f.oe ≡ 0 → f.cn ≡ 0 → (s : Service) × (identifier_at body f 0 ≡ Dab s)
unfolding identifier_at kind_at first_kind of_kind
first_service body f z c =
    let w = width f.pd f.ils in
    cases_bool (leb (length body) f.from)
    (λ e. (record { 0 = 0 }, rw e))
    (λ e. (record { 0 = number_at w body (f.from + 0 * w) }, rw (e, c, z)))

module _ (body : List ℕ) (f : Field) where
  pub pairs_count : length (pairs_of (meaning body f)) ≡ f.count
  unfolding pairs_of is_continuation meaning
  pairs_count =
      length_pairs (eqb f.cn 1) (first_kind f.oe f.qualifier) f.qualifier (meaning body f).numbers
      ∙ length_identifiers (width f.pd f.ils) f.count (drop f.from body)

  -- from the first on they are all, and past the last there is none
  pub pairs_all : pairs_from body f 0 ≡ pairs_of (meaning body f)
  unfolding pairs_from
  pairs_all = refl

  pub pairs_none : (i : ℕ) → f.count ≤ i → pairs_from body f i ≡ []
  unfolding pairs_from
  pairs_none i h = drop_of_length-le (pairs_of (meaning body f)) {i = i} (omega (arith, pairs_count))

  module _ (r : InBody body f) (i : ℕ) (i< : i < f.count) where
    -- its bytes are in the body
    its_bytes : f.from + i * width f.pd f.ils + width f.pd f.ils ≤ length body
    its_bytes =
        let w = width f.pd f.ils in
        let more = mul-le-mul_right w i< in
        omega (arith, suc-mul i w, r.holds)

    -- the i-th number of the field
    number_means : number_at (width f.pd f.ils) body (f.from + i * width f.pd f.ils) ≡ get_or (meaning body f).numbers i 0
    unfolding meaning number_at
    number_means =
        let w = width f.pd f.ils in
        rw (
          bytes_at_within w body (f.from + i * w) its_bytes,
          identifiers_at w f.count i (drop f.from body) i<,
          drop-drop (i * w) f.from body,
        )

    -- no service 0 stands for it
    identifier_there :
        identifier_at body f i ≡ of_kind (kind_at f i) (number_at (width f.pd f.ils) body (f.from + i * width f.pd f.ils))
    unfolding identifier_at
    identifier_there =
        let there : f.from < length body = omega (arith, its_bytes, width_range f.pd f.ils) in
        let few : i < 16 = omega (arith, r.count) in
        simp (lt-leb 16 i few, lt-leb (length body) f.from there)

    -- the i-th pair of the field
    pub identifier_means : (f.qualifier ≡ 2 → ⊥) → pair_of (identifier_at body f i) ≡ get_or (pairs_of (meaning body f)) i (pair f.qualifier 0)
    unfolding pairs_of is_continuation kind_at meaning
    identifier_means not =
        let known = kind_at_range f i r.qualifier not in
        let ns = (meaning body f).numbers in
        let there : i < length ns = omega (arith, length_identifiers (width f.pd f.ils) f.count (drop f.from body)) in
        ap pair_of identifier_there ∙ of_kind_pair _ _ known.0 known.1 ∙ ap (pair (kind_at f i)) number_means
        ∙ sym (pairs_at (eqb f.cn 1) (first_kind f.oe f.qualifier) f.qualifier i ns there)

    -- the pairs from the i-th on are the i-th identifier and the pairs after it
    pub pairs_step : (f.qualifier ≡ 2 → ⊥) → pairs_from body f i ≡ pair_of (identifier_at body f i) ∷ pairs_from body f (suc i)
    unfolding pairs_from
    pairs_step not =
        let there : i < length (pairs_of (meaning body f)) = omega (arith, pairs_count) in
        rw (identifier_means not) (drop-cons (pairs_of (meaning body f)) i (pair f.qualifier 0) there)
