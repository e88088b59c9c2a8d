-- Places in a table: where a key stands or would stand, keys that ascend, flags that are off.
use Rattle.std.specs.Prelude.{ℕ, Bool, true, not, ◌&&◌, List, [], ◌∷◌, get_or, ltb, eqb}
use Rattle.std.specs.List.{list_all}
use Rattle.rules.specs.Family as Family
use Rattle.rules.specs.Collecting.{linkage, is_key}

-- the first place whose key is not smaller
abbrev pub place_in : List ℕ → ℕ → ℕ
place_in keys k = Family.place_in linkage keys k

-- a key stands at a place, among the first so many keys
abbrev pub stands_at : List ℕ → ℕ → ℕ → ℕ → Bool
stands_at keys count at key = ltb at count && eqb (get_or keys at 0) key

-- numbers that are keys, and ascend
unfoldable pub keys_meet : ℕ → List ℕ → Bool
keys_meet last [] = true
keys_meet last (k ∷ ks) = ltb last k && is_key k && keys_meet k ks

-- all are off
abbrev pub all_off : List Bool → Bool
all_off flags = list_all not flags
