-- Small general facts that the other files of proofs/ share, in this order: deciding a Bool or an option with its equation;
-- `&&`, `||` and `not`; choices; the tests on numbers as equations; something said of every element of a list, or of what an
-- option holds; `map`.
use Prim.Native.Nat.{ℕ, zero, suc, ◌≤◌, ◌<◌}
use native.Mathlib.Omega.{arith}
use mathlib.Core.Path.{◌≡◌, refl, sym, ◌∙◌}
use mathlib.Core.Logic.{◌↔◌}
use mathlib.Core.Bool.{Bool, true, false, not, cond, ◌&&◌, ◌||◌}
use mathlib.Core.List.{List, [], ◌∷◌, ◌++◌, map}
pub use mathlib.Core.List.{map-append, map-map}
use mathlib.Core.Option.{Option, none, some}
use lib.ListN.{length, get_or, take, drop, length-map}
use lib.Dec.{ltb, eqb}
use borrow.Author.Tests.{ltb-true, ltb-false, eqb-false, lt-ltb, le-ltb, eq-eqb}
pub use borrow.Author.Tests.{not-true}
use Rattle.rules.specs.Block.{bit}

-- ---- deciding

pub cases_bool {ℓ} : {C : Type ℓ} (b : Bool) → (b ≡ true → C) → (b ≡ false → C) → C
cases_bool true t f = t refl
cases_bool false t f = f refl

pub cases-option {ℓ} : {A : Type 0} {C : Type ℓ} (o : Option A) → (o ≡ none → C) → ((a : A) → o ≡ some a → C) → C
cases-option none n s = n refl
cases-option (some a) n s = s a refl

pub true-false {ℓ} : {C : Type ℓ} {b : Bool} → b ≡ true → b ≡ false → C
true-false {C} {b} p q = let z : ◌≡◌ {A = ℕ} 0 1 = cc in absurd (omega arith)

pub none_some {ℓ} : {A : Type 0} {C : Type ℓ} {o : Option A} {a : A} → o ≡ none → o ≡ some a → C
none_some p q = let z : ◌≡◌ {A = ℕ} 0 1 = cc in absurd (omega arith)

-- ---- `&&`, `||`, `not`

pub and_left : (a b : Bool) → (a && b) ≡ true → a ≡ true
and_left true b e = refl
and_left false b e = e

pub and_right : (a b : Bool) → (a && b) ≡ true → b ≡ true
and_right true b e = e
and_right false b e = true-false e refl

pub and_both : (a b : Bool) → a ≡ true → b ≡ true → (a && b) ≡ true
and_both a b p q = rw (p, q)

pub or_left : (a b : Bool) → a ≡ true → (a || b) ≡ true
or_left a b p = rw p

pub or_right : (a b : Bool) → b ≡ true → (a || b) ≡ true
or_right true b q = refl
or_right false b q = q

-- neither
pub or_false_left : (a b : Bool) → (a || b) ≡ false → a ≡ false
or_false_left true b e = e
or_false_left false b e = refl

pub or_false_right : (a b : Bool) → (a || b) ≡ false → b ≡ false
or_false_right true b e = true-false refl e
or_false_right false b e = e

pub or_neither : (a b : Bool) → a ≡ false → b ≡ false → (a || b) ≡ false
or_neither a b p q = rw (p, q)

-- none of five, all of three, of four and of five
pub or_five : (a b c d e : Bool) → (a || b || c || d || e) ≡ false
    → (a ≡ false) × (b ≡ false) × (c ≡ false) × (d ≡ false) × (e ≡ false)
or_five a b c d e h =
    let h4 = or_false_left (a || b || c || d) e h in
    let h3 = or_false_left (a || b || c) d h4 in
    let h2 = or_false_left (a || b) c h3 in (
      or_false_left a b h2,
      or_false_right a b h2,
      or_false_right (a || b) c h3,
      or_false_right (a || b || c) d h4,
      or_false_right (a || b || c || d) e h,
    )

pub and_three : (a b c : Bool) → ((a && b && c) ≡ true) ↔ ((a ≡ true) × (b ≡ true) × (c ≡ true))
and_three a b c = (
  λ h. let h2 = and_left (a && b) c h in (and_left a b h2, and_right a b h2, and_right (a && b) c h),
  λ h. rw (h.0, h.1, h.2),
)

pub and_four : (a b c d : Bool) → ((a && b && c && d) ≡ true) ↔ ((a ≡ true) × (b ≡ true) × (c ≡ true) × (d ≡ true))
and_four a b c d = (
  λ h. let h3 = and_left (a && b && c) d h in let t = (and_three a b c).0 h3 in (t.0, t.1, t.2, and_right (a && b && c) d h),
  λ h. rw (h.0, h.1, h.2, h.3),
)

pub and_five : (a b c d e : Bool) → ((a && b && c && d && e) ≡ true) ↔ ((a ≡ true) × (b ≡ true) × (c ≡ true) × (d ≡ true) × (e ≡ true))
and_five a b c d e = (
  λ h. let h4 = and_left (a && b && c && d) e h in let t = (and_four a b c d).0 h4 in (t.0, t.1, t.2, t.3, and_right (a && b && c && d) e h),
  λ h. rw (h.0, h.1, h.2, h.3, h.4),
)

pub and_six : (a b c d e f : Bool)
    → ((a && b && c && d && e && f) ≡ true) ↔ ((a ≡ true) × (b ≡ true) × (c ≡ true) × (d ≡ true) × (e ≡ true) × (f ≡ true))
and_six a b c d e f = (
  λ h. let h5 = and_left (a && b && c && d && e) f h in
      let t = (and_five a b c d e).0 h5 in
      (t.0, t.1, t.2, t.3, t.4, and_right (a && b && c && d && e) f h),
  λ h. rw (h.0, h.1, h.2, h.3, h.4, h.5),
)

-- one or the other
pub or_cases {ℓ} : {C : Type ℓ} (a b : Bool) → (a || b) ≡ true → (a ≡ true → C) → (b ≡ true → C) → C
or_cases true b e l r = l refl
or_cases false b e l r = r e

pub true_not : (b : Bool) → b ≡ false → not b ≡ true
true_not b e = rw e

-- a Bool that cannot be true is false
pub never_true : (b : Bool) → (b ≡ true → ⊥) → b ≡ false
never_true b h = cases_bool b (λ e. absurd (h e)) (λ e. e)

-- a picked value has what both have
pub cond_both {ℓ} : {A : Type 0} (P : A → Type ℓ) (b : Bool) (x y : A) → P x → P y → P (cond b x y)
cond_both P true x y p q = p
cond_both P false x y p q = q

-- a picked value, by the test that picked it
pub cond_cases {ℓ} : {A : Type 0} (P : A → Type ℓ) (b : Bool) (x y : A) → (b ≡ true → P x) → (b ≡ false → P y) → P (cond b x y)
cond_cases P true x y p q = p refl
cond_cases P false x y p q = q refl

-- a choice that came out as something else than its first part was decided against it, and than its second part, for it
pub not_first : {A : Type 0} (b : Bool) {x y v : A} → (x ≡ v → ⊥) → cond b x y ≡ v → (b ≡ false) × (y ≡ v)
not_first true other e = absurd (other e)
not_first false other e = (refl, e)

pub not_second : {A : Type 0} (b : Bool) {x y v : A} → (y ≡ v → ⊥) → cond b x y ≡ v → (b ≡ true) × (x ≡ v)
not_second true other e = (refl, e)
not_second false other e = absurd (other e)

-- a function of a picked value
pub cond_ap : {A B : Type 0} (g : A → B) (b : Bool) (x y : A) → g (cond b x y) ≡ cond b (g x) (g y)
cond_ap g true x y = refl
cond_ap g false x y = refl

-- picking twice by one test, and by two that are never both true
pub cond_twice : {A : Type 0} (b : Bool) (x y z : A) → cond b x (cond b y z) ≡ cond b x z
cond_twice true x y z = refl
cond_twice false x y z = refl

pub cond_order : {A : Type 0} (b c : Bool) (x y z : A) → (b ≡ true → c ≡ true → ⊥) → cond b x (cond c y z) ≡ cond c y (cond b x z)
cond_order true true x y z h = absurd (h refl refl)
cond_order true false x y z h = refl
cond_order false true x y z h = refl
cond_order false false x y z h = refl

-- ---- the tests on numbers, as equations

pub bit_small : (b : Bool) → bit b ≤ 1
unfolding bit
bit_small true = omega arith
bit_small false = omega arith

pub eqb_self : (n : ℕ) → eqb n n ≡ true
eqb_self n = eq-eqb n n refl

pub ltb_self : (n : ℕ) → ltb n n ≡ false
ltb_self n = le-ltb n n (omega arith)

pub ltb_trans : (a b c : ℕ) → ltb a b ≡ true → ltb b c ≡ true → ltb a c ≡ true
ltb_trans a b c p q = lt-ltb a c (omega (arith, ltb-true a b p, ltb-true b c q))

pub ltb_or : (a b : ℕ) → ltb a b ≡ false → eqb a b ≡ false → ltb b a ≡ true
ltb_or a b p q = lt-ltb b a (omega (arith, ltb-false a b p, eqb-false a b q))

-- ---- something said of every element

abbrev pub Every : {A : Type 0} → (A → Type 0) → List A → Type 0
Every P [] = Unit {0}
Every P (x ∷ xs) = P x × Every P xs

module _ {A : Type 0} where
  pub every_imp : (P Q : A → Type 0) → ((x : A) → P x → Q x) → (xs : List A) → Every P xs → Every Q xs
  every_imp P Q h [] e = tt
  every_imp P Q h (x ∷ xs) e = (h x e.0, every_imp P Q h xs e.1)

  pub every_both : (P Q R : A → Type 0) → ((x : A) → P x → Q x → R x) → (xs : List A) → Every P xs → Every Q xs → Every R xs
  every_both P Q R h [] e f = tt
  every_both P Q R h (x ∷ xs) e f = (h x e.0 f.0, every_both P Q R h xs e.1 f.1)

  pub every_append : (P : A → Type 0) (xs ys : List A) → Every P xs → Every P ys → Every P (xs ++ ys)
  every_append P [] ys e f = f
  every_append P (x ∷ xs) ys e f = (e.0, every_append P xs ys e.1 f)

  pub every_left : (P : A → Type 0) (xs ys : List A) → Every P (xs ++ ys) → Every P xs
  every_left P [] ys e = tt
  every_left P (x ∷ xs) ys e = (e.0, every_left P xs ys e.1)

  pub every_right : (P : A → Type 0) (xs ys : List A) → Every P (xs ++ ys) → Every P ys
  every_right P [] ys e = e
  every_right P (x ∷ xs) ys e = every_right P xs ys e.1

  pub every_take : (P : A → Type 0) (n : ℕ) (xs : List A) → Every P xs → Every P (take n xs)
  every_take P zero xs e = tt
  every_take P (suc n) [] e = tt
  every_take P (suc n) (x ∷ xs) e = (e.0, every_take P n xs e.1)

  pub every_drop : (P : A → Type 0) (n : ℕ) (xs : List A) → Every P xs → Every P (drop n xs)
  every_drop P zero xs e = e
  every_drop P (suc n) [] e = tt
  every_drop P (suc n) (x ∷ xs) e = every_drop P n xs e.1

  pub every_at : (P : A → Type 0) (d : A) → P d → (xs : List A) → Every P xs → (i : ℕ) → P (get_or xs i d)
  every_at P d h [] e i = h
  every_at P d h (x ∷ xs) e zero = e.0
  every_at P d h (x ∷ xs) e (suc i) = every_at P d h xs e.1 i

  pub every_from : (P : A → Type 0) (d : A) (xs : List A) → ((i : ℕ) → P (get_or xs i d)) → Every P xs
  every_from P d [] h = tt
  every_from P d (x ∷ xs) h = (h zero, every_from P d xs (λ i. h (suc i)))

pub every_map : {A B : Type 0} (P : B → Type 0) (g : A → B) (xs : List A) → Every (λ x. P (g x)) xs → Every P (map g xs)
every_map P g [] e = tt
every_map P g (x ∷ xs) e = (e.0, every_map P g xs e.1)

-- something said of what an option holds, if it holds something
abbrev pub Within : {A : Type 0} → (A → Type 0) → Option A → Type 0
Within P none = Unit {0}
Within P (some x) = P x

pub within_if : {A : Type 0} (P : A → Type 0) (o : Option A) → ((x : A) → o ≡ some x → P x) → Within P o
within_if P none h = tt
within_if P (some x) h = h x refl

pub within_imp : {A : Type 0} (P Q : A → Type 0) → ((x : A) → P x → Q x) → (o : Option A) → Within P o → Within Q o
within_imp P Q h none e = tt
within_imp P Q h (some x) e = h x e

-- ---- lists

-- an array of structs stands in what a function knows under a `map`
pub length_of_map : {A B : Type 0} (g : A → B) (xs : List A) (n : ℕ) → length (map g xs) ≡ n → length xs ≡ n
length_of_map g xs n e = sym (length-map xs g) ∙ e

-- a value of a mapped list, within it, whatever stands for those past the end
pub get_d_map : {A B : Type 0} (g : A → B) (xs : List A) (i : ℕ) (d : B) (e : A) → i < length xs → get_or (map g xs) i d ≡ g (get_or xs i e)
get_d_map g [] i d e h = absurd (omega arith)
get_d_map g (x ∷ xs) zero d e h = refl
get_d_map g (x ∷ xs) (suc i) d e h = get_d_map g xs i d e (omega arith)

-- ---- equal lists have equal heads and tails

module _ {A : Type 0} where
  pub same_head : {a b : A} {x y : List A} → ◌≡◌ {A = List A} (a ∷ x) (b ∷ y) → a ≡ b
  same_head e = cc

  pub same_tail : {a b : A} {x y : List A} → ◌≡◌ {A = List A} (a ∷ x) (b ∷ y) → x ≡ y
  same_tail e = cc
