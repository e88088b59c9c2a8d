-- An array with one value more or one less: as it is stored, and value by value.
use Prim.Native.Nat.{ℕ, zero, suc, ◌+◌, ◌-◌, ◌<◌, ◌≤◌}
use native.Mathlib.Nat.{le_of_suc-le-suc, not-suc-le-zero, add-zero}
use native.Mathlib.Omega.{arith}
use mathlib.Core.Path.{◌≡◌, refl, sym, ap, ap₂, ◌∙◌}
use mathlib.Core.List.{List, [], ◌∷◌, ◌++◌, append_assoc}
use lib.ListN.{length, get_or, take, drop, replicate, length-take, length-drop, length-append, length-replicate, get_or-append, replicate-append-replicate}
use lib.Seq.{take-append-le, drop-append-le, take-append-add, take_all, take-take, get_or-append-add, get_or-take, get_or-drop, length-take-le}
use Rattle.rules.specs.Arrays.{padded, opened, shut}

module _ {A : Type 0} where
  take_replicate : (m n : ℕ) (d : A) → m ≤ n → take m (replicate n d) ≡ replicate m d
  take_replicate zero n d h = refl
  take_replicate (suc m) zero d h = absurd (not-suc-le-zero h)
  take_replicate (suc m) (suc n) d h = ap (λ (r : List A). d ∷ r) (take_replicate m n d (le_of_suc-le-suc h))

  with_length : (i : ℕ) (v : A) (ys : List A) → i ≤ length ys → length (take i ys ++ v ∷ drop i ys) ≡ length ys + 1
  with_length i v ys h = rw (length-append (take i ys) (v ∷ drop i ys), length-take-le i ys h, length-drop i ys) (omega arith)

  front_length : (at : ℕ) (xs : List A) → at < length xs → length (take at xs ++ drop (suc at) xs) ≡ length xs - 1
  front_length at xs h = rw (length-append (take at xs) (drop (suc at) xs), length-take-le at xs (omega arith), length-drop (suc at) xs) (omega arith)

  pub padded_opened : (n : ℕ) (d : A) (ys : List A) (i : ℕ) (v : A) → i ≤ length ys → length ys < n
      → padded n d (take i ys ++ v ∷ drop i ys) ≡ opened i v (padded n d ys)
  unfolding padded opened
  padded_opened n d ys i v h l =
      let m : ℕ = n - length ys in
      let whole : length (ys ++ replicate (n - length ys) d) ≡ length (take i ys ++ v ∷ drop i ys) + (n - length ys - 1) =
      length-append ys (replicate (n - length ys) d) ∙ rw (length-replicate (n - length ys) d, with_length i v ys h) (omega arith) in
      sym
      (ap₂ (λ (k : ℕ) (r : List A). take k r) whole
      (ap₂ (λ (a b : List A). a ++ v ∷ b) (take-append-le i ys (replicate (n - length ys) d) h) (drop-append-le i ys (replicate (n - length ys) d) h)
      ∙ sym (append_assoc (take i ys) (v ∷ drop i ys) (replicate (n - length ys) d)))
      ∙ take-append-add (take i ys ++ v ∷ drop i ys) (replicate (n - length ys) d) (n - length ys - 1)
      ∙ ap (λ (r : List A). (take i ys ++ v ∷ drop i ys) ++ r)
      (take_replicate (n - length ys - 1) (n - length ys) d (omega arith)
      ∙ ap (λ (k : ℕ). replicate k d) (less (length ys) n l ∙ ap (λ (k : ℕ). n - k) (sym (with_length i v ys h)))))
    where
      less : (a b : ℕ) → a < b → b - a - 1 ≡ b - (a + 1)
      less a b g = omega arith

  pub padded_shut : (n : ℕ) (d : A) (ys : List A) (i : ℕ) → i < length ys → length ys ≤ n
      → padded n d (take i ys ++ drop (suc i) ys) ≡ shut i d (padded n d ys)
  unfolding padded shut
  padded_shut n d ys i h l =
      let k : n - length (take i ys ++ drop (suc i) ys) ≡ n - length ys + 1 = ap (λ (k : ℕ). n - k) (front_length i ys h) ∙ omega arith in
      ap (λ (r : List A). (take i ys ++ drop (suc i) ys) ++ r)
      (ap (λ (m : ℕ). replicate m d) k ∙ sym (replicate-append-replicate (n - length ys) 1 d))
      ∙ append_assoc (take i ys) (drop (suc i) ys) (replicate (n - length ys) d ++ d ∷ [])
      ∙ ap (λ (r : List A). take i ys ++ r) (sym (append_assoc (drop (suc i) ys) (replicate (n - length ys) d) (d ∷ [])))
      ∙ sym
      (ap₂ (λ (a b : List A). a ++ b ++ d ∷ []) (take-append-le i ys (replicate (n - length ys) d) (omega arith)) (drop-append-le (suc i) ys (replicate (n - length ys) d) h)
      ∙ append_assoc (take i ys) (drop (suc i) ys ++ replicate (n - length ys) d) (d ∷ []))

  -- ---- the values of an array with one value more

  pub length_opened : (at : ℕ) (v : A) (xs : List A) → at ≤ length xs → length (opened at v xs) ≡ length xs
  unfolding opened
  length_opened at v xs h =
      length-take (length xs) (take at xs ++ v ∷ drop at xs)
      ∙ rw (length-append (take at xs) (v ∷ drop at xs), length-take-le at xs h, length-drop at xs) (omega arith)

  opened_value : (at : ℕ) (v : A) (xs : List A) (j : ℕ) (d : A) → j < length xs → get_or (opened at v xs) j d ≡ get_or (take at xs ++ v ∷ drop at xs) j d
  unfolding opened
  opened_value at v xs j d h = get_or-take (length xs) (take at xs ++ v ∷ drop at xs) j d h

  pub opened_here : (at : ℕ) (v : A) (xs : List A) (d : A) → at < length xs → get_or (opened at v xs) at d ≡ v
  opened_here at v xs d h =
      opened_value at v xs at d h
      ∙ ap (λ (k : ℕ). get_or (take at xs ++ v ∷ drop at xs) k d) (sym (length-take-le at xs (omega arith)) ∙ sym (add-zero (length (take at xs))))
      ∙ get_or-append-add (take at xs) (v ∷ drop at xs) 0 d

  pub opened_after : (at : ℕ) (v : A) (xs : List A) (j : ℕ) (d : A) → at < j → j < length xs → get_or (opened at v xs) j d ≡ get_or xs (j - 1) d
  opened_after at v xs j d a h =
      let m : length (take at xs) + suc (j - 1 - at) ≡ j = ap (λ (k : ℕ). k + suc (j - 1 - at)) (length-take-le at xs (omega arith)) ∙ omega arith in
      let n : at + (j - 1 - at) ≡ j - 1 = omega arith in
      opened_value at v xs j d h
      ∙ ap (λ (k : ℕ). get_or (take at xs ++ v ∷ drop at xs) k d) (sym m)
      ∙ get_or-append-add (take at xs) (v ∷ drop at xs) (suc (j - 1 - at)) d
      ∙ get_or-drop at xs (j - 1 - at) d
      ∙ ap (λ (k : ℕ). get_or xs k d) n

  -- before the place nothing changes
  pub opened_before : (at : ℕ) (v : A) (xs : List A) → at ≤ length xs → take at (opened at v xs) ≡ take at xs
  unfolding opened
  opened_before at v xs h =
      take-take at (length xs) (take at xs ++ v ∷ drop at xs) h
      ∙ take-append-le at (take at xs) (v ∷ drop at xs) (rw (length-take-le at xs h) (omega arith))
      ∙ take_all at (take at xs) (rw (length-take-le at xs h) (omega arith))

  -- ---- the values of an array with one value less

  pub length_shut : (at : ℕ) (d : A) (xs : List A) → at < length xs → length (shut at d xs) ≡ length xs
  unfolding shut
  length_shut at d xs h =
      rw (length-append (take at xs ++ drop (suc at) xs) (d ∷ []), length-append (take at xs) (drop (suc at) xs), length-take-le at xs (omega arith), length-drop (suc at) xs)
      (omega arith)

  pub shut_value : (at : ℕ) (d : A) (xs : List A) (j : ℕ) (e : A) → at ≤ j → j + 1 < length xs → get_or (shut at d xs) j e ≡ get_or xs (j + 1) e
  unfolding shut
  shut_value at d xs j e a h =
      let m : length (take at xs) + (j - at) ≡ j = ap (λ (k : ℕ). k + (j - at)) (length-take-le at xs (omega arith)) ∙ omega arith in
      let n : suc at + (j - at) ≡ j + 1 = omega arith in
      get_or-append (take at xs ++ drop (suc at) xs) (d ∷ []) e j (rw (front_length at xs (omega arith)) (omega arith))
      ∙ ap (λ (k : ℕ). get_or (take at xs ++ drop (suc at) xs) k e) (sym m)
      ∙ get_or-append-add (take at xs) (drop (suc at) xs) (j - at) e
      ∙ get_or-drop (suc at) xs (j - at) e
      ∙ ap (λ (k : ℕ). get_or xs k e) n

  pub shut_last : (at : ℕ) (d : A) (xs : List A) (j : ℕ) (e : A) → at ≤ j → j + 1 ≡ length xs → get_or (shut at d xs) j e ≡ d
  unfolding shut
  shut_last at d xs j e a h =
      let m : length (take at xs ++ drop (suc at) xs) + 0 ≡ j = ap (λ (k : ℕ). k + 0) (front_length at xs (omega arith)) ∙ omega arith in
      ap (λ (k : ℕ). get_or (take at xs ++ drop (suc at) xs ++ d ∷ []) k e) (sym m)
      ∙ get_or-append-add (take at xs ++ drop (suc at) xs) (d ∷ []) 0 e
