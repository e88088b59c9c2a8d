-- Writing for air as it stood in document 01 before document 02's R-3. No contract cites these; proofs/Before.antt says what of them still
-- holds.
use Rattle.std.specs.Prelude.{ℕ, ◌/◌, ◌%◌, false, List, [], ◌∷◌, ◌++◌, eqb}
use Rattle.rules.specs.Field.{Pair, rds, drm}
use Rattle.rules.specs.Collecting.{IdSet, Content, Shown, shown_sets, key_width}
use Rattle.pieces.specs.Air.{Piece, piece_most, chop, dead_link, blocks_of}

-- the start took the first identifier and the run of one kind that follows; that kind was its qualifier, or 0 if there was one identifier
unfoldable pub cut_before : ℕ → List Pair → List Piece
cut_before most [] = []
cut_before most (p ∷ []) = record { more = false; qualifier = 0; numbers = p.number ∷ [] } ∷ []
cut_before most (p ∷ (q ∷ qs)) = chop most (record { more = false; qualifier = q.kind; numbers = p.number ∷ q.number ∷ [] }) qs

unfoldable pub pieces_before : ℕ → IdSet → List Piece
pieces_before most l =
    cut_before most l.items ++ dead_link rds (eqb (l.named % 2) 1) l.items ++ dead_link drm (eqb (l.named / 2) 1) l.items

unfoldable pub blocks_before : List Shown → List ℕ
blocks_before [] = []
blocks_before (s ∷ ss) = blocks_of s.key s.on (pieces_before (piece_most (key_width s.key)) s.set) ++ blocks_before ss

unfoldable pub air_before : Content → List ℕ
air_before t = blocks_before (shown_sets t.sets)
