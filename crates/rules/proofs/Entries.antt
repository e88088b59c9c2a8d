-- A table by places, over any family. In this order: what the search for a key's place says of finding, replacing, inserting,
-- forgetting, and of a field; what stands at a place; a column of a list of records in its array, with one record replaced, one more
-- or one less.
use Prim.Native.Nat.{ℕ, zero, suc, ◌<◌, ◌≤◌, suc-le-suc}
use native.Mathlib.Nat.{le_of_suc-le-suc, not-suc-le-zero}
use native.Mathlib.Omega.{arith}
use mathlib.Core.Path.{◌≡◌, refl, sym, ap, ap₂, ◌∙◌, subst}
use mathlib.Core.Bool.{true, false}
use mathlib.Core.List.{List, [], ◌∷◌, ◌++◌, map, map-append}
use mathlib.Core.Option.{none, some}
use lib.ListN.{length, get_or, set, take, drop, length-map}
use lib.Dec.{ltb}
use Rattle.rules.specs.Arrays.{padded, opened, shut}
use Rattle.rules.specs.Family.{Family, Said, Entry, on_held, on_unheld, kept, effect, find, replace, insert, store, step, forget, place_in, Rules, held_meets, all_meet}
use Rattle.rules.specs.Receptions.{held_keys}
use Rattle.rules.proofs.Basics.{cases_bool, never_true, and_left, and_right, get_d_map}
use Rattle.rules.proofs.Arrays.{padded_set, get_d_padded}
use Rattle.rules.proofs.Shifts.{padded_opened, padded_shut}
use Rattle.rules.proofs.FamilyLaws.{Lawful, Ascends, on_held_key, after_differ, after_not_before, after_none, after_through, forget_none}

-- ---- a key's place

module _ (F : Family) where
  open F use {Key, key_before}

  -- a key's place among the entries, right past them at most
  abbrev pub place_of : List (Entry F) → Key → ℕ
  place_of c k = place_in F (held_keys F c) k

  pub place_most : (c : List (Entry F)) (k : Key) → place_of c k ≤ length c
  unfolding place_in
  place_most [] k = omega arith
  place_most (e ∷ c) k = cases_bool (key_before e.key k) (λ b. rw b (suc-le-suc (place_most c k))) (λ b. rw b (omega arith))

  -- a key stands at a place; past the end stands `past`
  abbrev pub At : Entry F → List (Entry F) → Key → ℕ → Type 0
  At past c k i = (i < length c) × ((get_or c i past).key ≡ k)

  -- it stands at its own
  abbrev pub Here : Entry F → List (Entry F) → Key → Type 0
  Here past c k = At past c k (place_of c k)

module _ (F : Family) (L : Lawful F) (past : Entry F) where
  open F use {Key, same_key, key_before, room}

  -- the first is the one, or comes after it
  first_same : (e : Entry F) (k : Key) → e.key ≡ k → same_key k e.key ≡ true
  first_same e k h = rw h (L.same_self k)

  first_after : (e : Entry F) (c : List (Entry F)) (k : Key) → key_before e.key k ≡ false → (Here F past (e ∷ c) k → ⊥)
      → key_before k e.key ≡ true
  unfolding place_in
  first_after e c k b =
      rw b (λ n. L.before_or e.key k b (never_true (same_key e.key k) (λ s. n (omega arith, L.same_is e.key k s))))

  pub find_here : (c : List (Entry F)) (k : Key) → Here F past c k → find F k c ≡ some (get_or c (place_of F c k) past)
  unfolding find place_in
  find_here [] k = λ h. absurd (not-suc-le-zero h.0)
  find_here (e ∷ c) k =
      cases_bool (key_before e.key k)
      (λ b. rw (b, after_differ F L k e.key b) (λ h. find_here c k (le_of_suc-le-suc h.0, h.1)))
      (λ b. rw b (λ h. rw (first_same e k h.1)))

  -- keys ascend, so that a key that does not stand at its place stands nowhere
  pub find_not_here : (c : List (Entry F)) (k : Key) → Ascends F (held_keys F c) → (Here F past c k → ⊥) → find F k c ≡ none
  unfolding find place_in
  find_not_here [] k a = λ n. refl
  find_not_here (e ∷ c) k a =
      cases_bool (key_before e.key k)
      (λ b. rw (b, after_differ F L k e.key b) (λ n. find_not_here c k a.1 (λ h. n (suc-le-suc h.0, h.1))))
      (λ b n. let l = first_after e c k b n in after_none F L k (e ∷ c) (l, after_through F L k e.key (held_keys F c) l a.0))

  pub replace_here : (c : List (Entry F)) (e : Entry F) → Here F past c e.key → replace F e c ≡ set c (place_of F c e.key) e
  unfolding replace place_in
  replace_here [] e = λ h. refl
  replace_here (x ∷ c) e =
      cases_bool (key_before x.key e.key)
      (λ b. rw (b, after_differ F L e.key x.key b) (λ h. ap (◌∷◌ x) (replace_here c e (le_of_suc-le-suc h.0, h.1))))
      (λ b. rw b (λ h. rw (first_same x e.key h.1)))

  pub insert_here : (c : List (Entry F)) (e : Entry F) → (Here F past c e.key → ⊥)
      → insert F e c ≡ take (place_of F c e.key) c ++ e ∷ drop (place_of F c e.key) c
  unfolding insert place_in
  insert_here [] e = λ n. refl
  insert_here (x ∷ c) e =
      cases_bool (key_before x.key e.key)
      (λ b. rw (b, after_not_before F L e.key x.key b)
      (λ n. ap (◌∷◌ x) (insert_here c e (λ h. n (suc-le-suc h.0, h.1)))))
      (λ b n. rw (b, first_after x c e.key b n))

  pub forget_here : (c : List (Entry F)) (k : Key) → Here F past c k
      → forget F k c ≡ take (place_of F c k) c ++ drop (suc (place_of F c k)) c
  unfolding forget place_in
  forget_here [] k = λ h. refl
  forget_here (e ∷ c) k =
      cases_bool (key_before e.key k)
      (λ b. rw (b, after_differ F L k e.key b) (λ h. ap (◌∷◌ e) (forget_here c k (le_of_suc-le-suc h.0, h.1))))
      (λ b. rw b (λ h. rw (first_same e k h.1)))

  pub forget_not_here : (c : List (Entry F)) (k : Key) → Ascends F (held_keys F c) → (Here F past c k → ⊥) → forget F k c ≡ c
  forget_not_here c k a n = forget_none F L k c (find_not_here c k a n)

  -- a field of a key that stands at its place, and of one that does not
  pub step_here : (c : List (Entry F)) (f : Said F) → Here F past c f.key
      → step F c f
      ≡ (
        set c (place_of F c f.key) (on_held F (get_or c (place_of F c f.key) past) f.state f.stamp f.act).0,
        (on_held F (get_or c (place_of F c f.key) past) f.state f.stamp f.act).1,
      )
  unfolding step effect kept store
  step_here c f h =
      let e = get_or c (place_of F c f.key) past in
      let r = on_held F e f.state f.stamp f.act in
      let key' : r.0.key ≡ f.key = on_held_key F e f.state f.stamp f.act ∙ h.1 in
      rw (find_here c f.key h)
      (ap (λ (t : List (Entry F)). (t, r.1))
      (replace_here c r.0 (subst (Here F past c) (sym key') h) ∙ ap (λ (k : Key). set c (place_of F c k) r.0) key'))

  pub step_not_here : (c : List (Entry F)) (f : Said F) → Ascends F (held_keys F c) → (Here F past c f.key → ⊥)
      → step F c f
      ≡ (
        store F none (on_unheld F (ltb (length c) room) f.key f.state f.act).0 c,
        (on_unheld F (ltb (length c) room) f.key f.state f.act).1,
      )
  unfolding step effect
  step_not_here c f a n = rw (find_not_here c f.key a n)

-- ---- what stands at a place

-- an entry of a table whose entries meet the rules
pub entry_at_law : (F : Family) (R : Rules F) (past : Entry F) (c : List (Entry F)) → all_meet F R c ≡ true → (i : ℕ) → i < length c
    → held_meets F R (get_or c i past) ≡ true
entry_at_law F R past [] m i h = absurd (not-suc-le-zero h)
entry_at_law F R past (e ∷ c) m zero h = and_left (held_meets F R e) (all_meet F R c) m
entry_at_law F R past (e ∷ c) m (suc i) h = entry_at_law F R past c (and_right (held_meets F R e) (all_meet F R c) m) i (le_of_suc-le-suc h)

-- ---- a column

module _ {A B : Type 0} (f : A → B) where
  map_set : (xs : List A) (i : ℕ) (v : A) → map f (set xs i v) ≡ set (map f xs) i (f v)
  map_set [] i v = refl
  map_set (x ∷ xs) zero v = refl
  map_set (x ∷ xs) (suc i) v = ap (◌∷◌ (f x)) (map_set xs i v)

  map_take : (i : ℕ) (xs : List A) → map f (take i xs) ≡ take i (map f xs)
  map_take zero xs = refl
  map_take (suc i) [] = refl
  map_take (suc i) (x ∷ xs) = ap (◌∷◌ (f x)) (map_take i xs)

  map_drop : (i : ℕ) (xs : List A) → map f (drop i xs) ≡ drop i (map f xs)
  map_drop zero xs = refl
  map_drop (suc i) [] = refl
  map_drop (suc i) (x ∷ xs) = map_drop i xs

  -- the values `f` of records, in an array of n places
  module _ (n : ℕ) (d : B) (c : List A) (i : ℕ) where
    pub column_at : (g : B) (past : A) → i < length c → get_or (padded n d (map f c)) i g ≡ f (get_or c i past)
    column_at g past h = get_d_padded n d g (map f c) i (rw (length-map c f) h) ∙ get_d_map f c i g past h

    pub column_set : (v : A) → i < length c → padded n d (map f (set c i v)) ≡ set (padded n d (map f c)) i (f v)
    column_set v h = ap (padded n d) (map_set c i v) ∙ padded_set n d (map f c) i (f v) (rw (length-map c f) h)

    pub column_opened : (v : A) → i ≤ length c → length c < n
        → padded n d (map f (take i c ++ v ∷ drop i c)) ≡ opened i (f v) (padded n d (map f c))
    column_opened v h l =
        ap (padded n d) (map-append f (take i c) (v ∷ drop i c) ∙ ap₂ (λ (a b : List B). a ++ f v ∷ b) (map_take i c) (map_drop i c))
        ∙ padded_opened n d (map f c) i (f v) (rw (length-map c f) h) (rw (length-map c f) l)

    pub column_shut : i < length c → length c ≤ n → padded n d (map f (take i c ++ drop (suc i) c)) ≡ shut i d (padded n d (map f c))
    column_shut h l =
        ap (padded n d) (map-append f (take i c) (drop (suc i) c) ∙ ap₂ ◌++◌ (map_take i c) (map_drop (suc i) c))
        ∙ padded_shut n d (map f c) i (rw (length-map c f) h) (rw (length-map c f) l)
