-- The kinds in a list: whether some identifier is of a kind, and dead links (document 01, The linking field; source document 003).
use Rattle.std.specs.Prelude.{ℕ, Bool, false, not, ◌&&◌, ◌||◌, List, [], ◌∷◌, eqb}
use Rattle.rules.specs.Field.{Pair}

-- some identifier is of this kind
unfoldable pub has_kind : ℕ → List Pair → Bool
has_kind k [] = false
has_kind k (p ∷ ps) = eqb p.kind k || has_kind k ps

-- a dead link: a kind that is named without an identifier of it
abbrev pub is_dead : ℕ → Bool → List Pair → Bool
is_dead k named ps = named && not (has_kind k ps)
