-- Lists in arrays of a fixed length: one content has one stored form, unused places included (document 01, Collecting); an array with
-- one value more or one less.
use Rattle.std.specs.Prelude.{ℕ, suc, ◌-◌, List, [], ◌∷◌, ◌++◌, length, take, drop, replicate}

-- these values, and then others up to n places
unfoldable pub padded {ℓ} : {A : Type ℓ} → ℕ → A → List A → List A
padded n d xs = xs ++ replicate (n - length xs) d

-- an array with a value at a place, the later ones one place further, the last lost
unfoldable pub opened {ℓ} : {A : Type ℓ} → ℕ → A → List A → List A
opened at v xs = take (length xs) (take at xs ++ v ∷ drop at xs)

-- an array without the value at a place, the later ones one place nearer, d at the end
unfoldable pub shut {ℓ} : {A : Type ℓ} → ℕ → A → List A → List A
shut at d xs = take at xs ++ drop (suc at) xs ++ d ∷ []
