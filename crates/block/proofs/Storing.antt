-- Spots as they are stored: none, and one more.
use Prim.Native.Nat.{◌+◌, ◌<◌}
use native.Mathlib.Omega.{arith}
use mathlib.Core.Path.{◌≡◌, refl, sym, ap, ◌∙◌}
use mathlib.Core.List.{List, [], ◌∷◌, ◌++◌, map}
use lib.ListN.{length, set, length-append, length-map}
use Rattle.rules.specs.Arrays.{padded}
use Rattle.rules.proofs.Arrays.{set_column}
use Rattle.block.specs.declared.Spot.{Spot}
use Rattle.block.specs.declared.Spots.{Spots}
use Rattle.block.specs.Judged.{Located, spot_of, no_spot, no_spots, store_spots}

pub stored_none : no_spots ≡ store_spots []
unfolding no_spots store_spots padded
stored_none = refl

-- spots with one more behind the first count
abbrev pub with_spot : Spots → Spot → Spots
with_spot spots s = record { spots = set spots.spots spots.count s; count = spots.count + 1 }

pub stored_more : (spots : Spots) (ls : List Located) (l : Located) → spots ≡ store_spots (map spot_of ls) → spots.count < 14
    → with_spot spots l.spot ≡ store_spots (map spot_of (ls ++ l ∷ []))
unfolding store_spots
stored_more spots ls l e h =
    let n : length ls ≡ spots.count = sym (ap (λ (x : Spots). x.count) e ∙ length-map ls spot_of) in
    let all = set_column spot_of 14 spots.count no_spot ls l (ap (λ (x : Spots). x.spots) e) refl n h in
    let count : spots.count + 1 ≡ length (map spot_of (ls ++ l ∷ [])) = omega (arith, length-map (ls ++ l ∷ []) spot_of, length-append ls (l ∷ [])) in
    λ i. record { spots = all i; count = count i }
