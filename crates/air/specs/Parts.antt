-- How the writer for air goes through a set: each piece takes the identifier at the front, and the run of the qualifier's kind that
-- follows, as far as there is room. That these are the pieces of the rules is proved in proofs/.
use Rattle.std.specs.Prelude.{ℕ, ◌≡◌, ◌≤◌, ◌<◌, Bool, true, false, List, [], ◌∷◌, length, eqb}
use Rattle.std.specs.List.{prefix_len}
use Rattle.rules.specs.Field.{Pair}
use Rattle.rules.specs.Collecting.{key_width}
use Rattle.lists.specs.declared.Pairs.{Pairs}
use Rattle.lists.specs.Stored.{listed}
use Rattle.pieces.specs.Air.{piece_most, chop, cut, start_qualifier}
use Rattle.pieces.specs.Air as Air
use Rattle.air.specs.declared.Piece.{Piece}
use Rattle.air.specs.declared.Pieces.{Pieces}

-- how many at the front are of a kind
abbrev pub run : ℕ → List ℕ → ℕ
run k xs = prefix_len (λ x. eqb x k) xs

-- the qualifier of the next piece of a key's set, by the kinds that are left: the first of them, but for the start
unfoldable pub qualifier_of : ℕ → Bool → List ℕ → ℕ
qualifier_of key begun [] = 0
qualifier_of key true (k ∷ ks) = k
qualifier_of key false (k ∷ ks) = start_qualifier key k ks

-- the piece of the rules that a piece stands for
abbrev pub piece_of : Piece → Air.Piece
piece_of p = record { more = p.more; qualifier = p.qualifier; numbers = p.numbers.now }

-- identifiers in continuations alone
unfoldable pub further : ℕ → List Pair → List Air.Piece
further most [] = []
further most (p ∷ ps) = chop most (record { more = true; qualifier = p.kind; numbers = p.number ∷ [] }) ps

-- the pieces of the identifiers that are left of a key's set: all, or those after a piece before them
unfoldable pub pieces_left : ℕ → Bool → List Pair → List Air.Piece
pieces_left key true items = further (piece_most (key_width key)) items
pieces_left key false items = cut key items

abbrev pub to_come : Pieces → List Air.Piece
to_come p = pieces_left p.key p.begun (listed p.left)

-- there are as many kinds as numbers
abbrev pub Alike : Pairs → Type 0
Alike p = length p.kinds.now ≡ length p.numbers.now

-- a block of a key has room for a piece
pub record Fitting (key : ℕ) (c : Air.Piece) : Type 0 where
  pub few : length c.numbers ≤ piece_most (key_width key)
  pub kind : c.qualifier < 4
