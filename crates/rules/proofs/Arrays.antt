-- Laws of lists stored in arrays: the length; the values, and what stands past them; one value more at the end, or among the
-- others; which list is stored; which records are stored in columns.
use Prim.Native.Nat.{ℕ, zero, suc, ◌+◌, ◌-◌, ◌<◌, ◌≤◌, suc-le-suc}
use native.Mathlib.Nat.{le_of_suc-le-suc, not-suc-le-zero}
use native.Mathlib.Omega.{arith}
use mathlib.Core.Path.{◌≡◌, refl, sym, ap, ap₂, ◌∙◌, subst}
use mathlib.Core.List.{List, [], ◌∷◌, ◌++◌, map, append_assoc, map-append}
use lib.ListN.{length, get_or, set, take, drop, replicate, length-append, length-drop, length-map, length-replicate, length-set, take-append-drop, replicate-append-replicate, get_or-append, get_or-replicate}
use lib.Seq.{set_at, set-append_left, take_at, drop_at, length-take-le, ext_get_or, get_or-append-add, get_or-drop}
use Rattle.rules.specs.Arrays.{padded}

module _ {ℓ} {A : Type ℓ} where
  pub length_padded : (n : ℕ) (d : A) (xs : List A) → length xs ≤ n → length (padded n d xs) ≡ n
  unfolding padded
  length_padded n d xs h = length-append xs (replicate (n - length xs) d) ∙ rw length-replicate (omega arith)

  -- the values, all of them or one, and what stands past them
  pub take_padded : (n : ℕ) (d : A) (xs : List A) (m : ℕ) → length xs ≡ m → take m (padded n d xs) ≡ xs
  unfolding padded
  take_padded n d xs m e = take_at xs (replicate (n - length xs) d) m e

  pub get_d_padded : (n : ℕ) (d e : A) (xs : List A) (i : ℕ) → i < length xs → get_or (padded n d xs) i e ≡ get_or xs i e
  unfolding padded
  get_d_padded n d e xs i h = get_or-append xs (replicate (n - length xs) d) e i h

  pub drop_padded : (n : ℕ) (d : A) (xs : List A) (m : ℕ) → length xs ≡ m → drop m (padded n d xs) ≡ replicate (n - m) d
  unfolding padded
  drop_padded n d xs m e = drop_at xs (replicate (n - length xs) d) m e ∙ ap (λ (k : ℕ). replicate (n - k) d) e

  pub get_d_past : (n : ℕ) (d e : A) (xs : List A) (i : ℕ) → length xs ≤ i → i < n → get_or (padded n d xs) i e ≡ d
  unfolding padded
  get_d_past n d e xs i l h =
      let j = i - length xs in
      let k : length xs + j ≡ i = omega arith in
      ap (λ (m : ℕ). get_or (xs ++ replicate (n - length xs) d) m e) (sym k)
      ∙ get_or-append-add xs (replicate (n - length xs) d) j e
      ∙ get_or-replicate (n - length xs) j d e (omega arith)

  -- a value stored after the others
  pub set_padded : (n i : ℕ) (d v : A) (xs : List A) → length xs ≡ i → i < n → set (padded n d xs) i v ≡ padded n d (xs ++ v ∷ [])
  unfolding padded
  set_padded n i d v xs e h =
      let m = n - suc i in
      let a : n - length xs ≡ suc m = omega arith in
      let b : m ≡ n - length (xs ++ v ∷ []) = omega (arith, length-append xs (v ∷ [])) in
      ap (λ (k : ℕ). set (xs ++ replicate k d) i v) a
      ∙ set_at xs d (replicate m d) v i e
      ∙ sym (append_assoc xs (v ∷ []) (replicate m d))
      ∙ ap (λ (k : ℕ). (xs ++ v ∷ []) ++ replicate k d) b

  -- a value stored among the others
  pub padded_set : (n : ℕ) (d : A) (xs : List A) (i : ℕ) (v : A) → i < length xs → padded n d (set xs i v) ≡ set (padded n d xs) i v
  unfolding padded
  padded_set n d xs i v h =
      ap (λ (k : ℕ). set xs i v ++ replicate (n - k) d) (length-set xs i v) ∙ sym (set-append_left xs (replicate (n - length xs) d) i v h)

  -- values that are the one past the end
  pub padded_default : (n : ℕ) (d : A) (xs : List A) → length xs < n → padded n d (xs ++ d ∷ []) ≡ padded n d xs
  unfolding padded
  padded_default n d xs h =
      let m = n - suc (length xs) in
      let a : n - length xs ≡ suc m = omega arith in
      let b : n - length (xs ++ d ∷ []) ≡ m = omega (arith, length-append xs (d ∷ [])) in
      ap (λ (k : ℕ). (xs ++ d ∷ []) ++ replicate k d) b
      ∙ append_assoc xs (d ∷ []) (replicate m d)
      ∙ sym (ap (λ (k : ℕ). xs ++ replicate k d) a)

  pub padded_replicate : (n m : ℕ) (d : A) → m ≤ n → padded n d (replicate m d) ≡ replicate n d
  unfolding padded
  padded_replicate n m d h =
      let sum : m + (n - m) ≡ n = omega arith in
      ap (λ (k : ℕ). replicate m d ++ replicate (n - k) d) (length-replicate m d)
      ∙ replicate-append-replicate m (n - m) d
      ∙ ap (λ (k : ℕ). replicate k d) sum

  -- an array with one value past len places is the stored form of those places
  pub same_padded : (n len : ℕ) (d : A) (xs : List A) → length xs ≡ n → len ≤ n → drop len xs ≡ replicate (n - len) d
      → xs ≡ padded n d (take len xs)
  unfolding padded
  same_padded n len d xs l h e =
      sym (take-append-drop len xs)
      ∙ ap (λ (r : List A). take len xs ++ r) (e ∙ ap (λ (k : ℕ). replicate (n - k) d) (sym (length-take-le len xs (omega arith))))

  -- it has one value past them where each place from len on has that value
  pub same_from : (n len : ℕ) (d e : A) (xs : List A) → length xs ≡ n → len ≤ n → ((i : ℕ) → i < n → len ≤ i → get_or xs i e ≡ d)
      → drop len xs ≡ replicate (n - len) d
  same_from n len d e xs l h s =
      let rest = length-drop len xs ∙ ap (λ (m : ℕ). m - len) l in
      ext_get_or e (drop len xs) (replicate (n - len) d) (rest ∙ sym (length-replicate (n - len) d))
      (λ i g.
      let g' : i < n - len = subst (λ (m : ℕ). i < m) rest g in
      get_or-drop len xs i e ∙ s (len + i) (omega arith) (omega arith) ∙ sym (get_or-replicate (n - len) i d e g'))

  -- and as many values have one stored form
  pub padded_same : (n : ℕ) (d : A) (xs ys : List A) → length xs ≡ length ys → padded n d xs ≡ padded n d ys → xs ≡ ys
  padded_same n d xs ys l e =
      sym (take_padded n d xs (length xs) refl) ∙ ap₂ take l e ∙ take_padded n d ys (length ys) refl

-- one column of a list of records, in its array, with the column of one record more
pub set_column : {A B : Type 0} (f : A → B) (n i : ℕ) (d : B) (xs : List A) (x : A) {ys : List B} {v : B}
    → ys ≡ padded n d (map f xs) → v ≡ f x → length xs ≡ i → i < n → set ys i v ≡ padded n d (map f (xs ++ x ∷ []))
set_column {A} {B} f n i d xs x e w l h =
    ap₂ (λ (zs : List B) (u : B). set zs i u) e w
    ∙ set_padded n i d (f x) (map f xs) (length-map xs f ∙ l) h
    ∙ ap (padded n d) (sym (map-append f xs (x ∷ [])))

-- the records g 0, g 1, .. below n
unfoldable pub tabulate {ℓ} : {A : Type ℓ} → ℕ → (ℕ → A) → List A
tabulate zero g = []
tabulate (suc n) g = g zero ∷ tabulate n (λ k. g (suc k))

pub length-tabulate {ℓ} : {A : Type ℓ} (n : ℕ) (g : ℕ → A) → length (tabulate n g) ≡ n
unfolding tabulate
length-tabulate zero g = refl
length-tabulate (suc n) g = ap suc (length-tabulate n (λ k. g (suc k)))

-- a column that has their values has them in their order
pub map_tabulate : {A B : Type 0} (f : A → B) (n : ℕ) (g : ℕ → A) (e : B) (xs : List B) → n ≤ length xs
    → ((k : ℕ) → k < n → f (g k) ≡ get_or xs k e) → map f (tabulate n g) ≡ take n xs
unfolding tabulate
map_tabulate f zero g e xs l h = refl
map_tabulate f (suc n) g e [] l h = absurd (not-suc-le-zero l)
map_tabulate f (suc n) g e (x ∷ xs) l h =
    ap₂ ◌∷◌ (h zero (omega arith)) (map_tabulate f n (λ k. g (suc k)) e xs (le_of_suc-le-suc l) (λ k b. h (suc k) (suc-le-suc b)))
