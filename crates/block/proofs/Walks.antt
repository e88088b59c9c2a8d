-- Laws of walks, in this order: one after the other; every item made into another, and back; what every item has.
use mathlib.Core.Path.{◌≡◌, refl, ap, ap₂}
use mathlib.Core.List.{List, [], ◌∷◌, map, map-append}
use Rattle.rules.specs.Block.{Walk, whole, broken, after}
use Rattle.rules.specs.Outcomes.{joined}
use Rattle.rules.proofs.Basics.{Every, every_append}
use Rattle.block.specs.Judged.{map_walk, items_of}

-- ---- one after the other

module _ {A : Type 0} where
  pub joined_none : (w : Walk A) → joined (whole []) w ≡ w
  unfolding joined
  joined_none (whole xs) = refl
  joined_none (broken p) = refl

  pub joined_after : (a : A) (w rest : Walk A) → joined (after a w) rest ≡ after a (joined w rest)
  unfolding joined after
  joined_after a (whole xs) (whole ys) = refl
  joined_after a (whole xs) (broken p) = refl
  joined_after a (broken p) rest = refl

-- ---- every item made into another

module _ {A B : Type 0} (h : A → B) where
  pub map_after : (a : A) (w : Walk A) → map_walk h (after a w) ≡ after (h a) (map_walk h w)
  unfolding map_walk after
  map_after a (whole xs) = refl
  map_after a (broken p) = refl

  pub map_joined : (v w : Walk A) → map_walk h (joined v w) ≡ joined (map_walk h v) (map_walk h w)
  unfolding map_walk joined
  map_joined (whole xs) (whole ys) = ap whole (map-append h xs ys)
  map_joined (whole xs) (broken p) = refl
  map_joined (broken p) w = refl

  pub items_map : (w : Walk A) → items_of (map_walk h w) ≡ map h (items_of w)
  unfolding map_walk items_of
  items_map (whole xs) = refl
  items_map (broken p) = refl

-- and back into itself
module _ {A B : Type 0} (g : A → B) (h : B → A) (back : (a : A) → h (g a) ≡ a) where
  list_back : (xs : List A) → map h (map g xs) ≡ xs
  list_back [] = refl
  list_back (x ∷ xs) = ap₂ ◌∷◌ (back x) (list_back xs)

  pub walk_back : (w : Walk A) → map_walk h (map_walk g w) ≡ w
  unfolding map_walk
  walk_back (whole xs) = ap whole (list_back xs)
  walk_back (broken p) = refl

-- ---- what every item has

module _ {A : Type 0} (P : A → Type 0) where
  pub items_every : (w : Walk A) → ((xs : List A) → w ≡ whole xs → Every P xs) → Every P (items_of w)
  unfolding items_of
  items_every (whole xs) h = h xs refl
  items_every (broken p) h = tt

  pub joined_every : (v w : Walk A) → Every P (items_of v) → Every P (items_of w) → Every P (items_of (joined v w))
  unfolding items_of joined
  joined_every (whole xs) (whole ys) e f = every_append P xs ys e f
  joined_every (whole xs) (broken p) e f = tt
  joined_every (broken p) w e f = tt
