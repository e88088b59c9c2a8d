-- Laws of a search for a kind. In order: the pairs from a place on, where `end` is their number; a kind among pairs.
use Prim.Native.Nat.{ℕ, ◌+◌, ◌≤◌, ◌<◌, min}
use native.Mathlib.Numerals.{add-one}
use native.Mathlib.Omega.{arith}
use mathlib.Core.Path.{◌≡◌, refl, ap}
use mathlib.Core.Bool.{Bool, ◌||◌}
use mathlib.Core.List.{List, [], ◌∷◌}
use lib.ListN.{length, get_or, take, drop}
use lib.Dec.{eqb}
use Rattle.std.specs.List.{list_any}
use Rattle.rules.specs.Field.{pair}
use Rattle.lists.specs.Kinds.{has_kind}
use Rattle.lists.specs.Stored.{paired, pairs_in}
use Rattle.lists.proofs.PairLaws.{drop_pairs, drop_pairs_end}

-- ---- the pairs from a place on

module _ (ks ns : List ℕ) (len i : ℕ) {end : ℕ} (len_is : end ≡ min len (min (length ks) (length ns))) where
  pub pairs_here : i < end → drop i (pairs_in ks ns len) ≡ pair (get_or ks i 0) (get_or ns i 0) ∷ drop (i + 1) (pairs_in ks ns len)
  pairs_here h = rw (add-one i) (drop_pairs ks ns len i (omega arith))

  pub pairs_end : end ≤ i → drop i (pairs_in ks ns len) ≡ []
  pairs_end h = drop_pairs_end ks ns len i (omega arith)

-- ---- a kind among pairs

-- some kind, of those that have a number, is the one that is looked for
pub kind_first : (k : ℕ) (ks ns : List ℕ) → list_any (λ (x : ℕ). eqb x k) (take (length (paired ks ns)) ks) ≡ has_kind k (paired ks ns)
unfolding has_kind paired pair
kind_first k [] ns = refl
kind_first k (x ∷ ks) [] = refl
kind_first k (x ∷ ks) (n ∷ ns) = ap (λ (b : Bool). eqb x k || b) (kind_first k ks ns)
