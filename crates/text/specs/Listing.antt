-- The listing (document 01, example 16): the text that the listing program prints, as its bytes.
use Rattle.std.specs.Prelude.{ℕ, ◌*◌, ◌/◌, ◌%◌, Bool, true, false, cond, List, [], ◌∷◌, ◌++◌, length, eqb}
use Rattle.rules.specs.Field.{Pair, dab, rds, drm}
use Rattle.rules.specs.Collecting.{Content, Shown, shown_sets, key_width}
use Rattle.lists.specs.Kinds.{is_dead}
use Rattle.out.specs.Text.{hex_text, decimal}

-- the letter of a kind: D, R, M
unfoldable pub kind_letter : ℕ → ℕ
kind_letter k = cond (eqb k dab) 68 (cond (eqb k rds) 82 77)

-- a blank, the letter, and the number in 4, 6 or 8 digits
unfoldable pub pair_text : ℕ → Pair → List ℕ
pair_text w p = 32 ∷ kind_letter p.kind ∷ hex_text (2 * w) p.number

unfoldable pub pairs_text : ℕ → List Pair → List ℕ
pairs_text w [] = []
pairs_text w (p ∷ ps) = pair_text w p ++ pairs_text w ps

-- a named kind without identifiers: ` R-` or ` M-`
unfoldable pub dead_text : ℕ → Bool → List Pair → List ℕ
dead_text k named ps = cond (is_dead k named ps) (32 ∷ kind_letter k ∷ 45 ∷ []) []

-- on or off
unfoldable pub state_text : Bool → List ℕ
state_text true = 111 ∷ 110 ∷ []
state_text false = 111 ∷ 102 ∷ 102 ∷ []

-- ` ids ` and how many
unfoldable pub ids_text : ℕ → List ℕ
ids_text n = 32 ∷ 105 ∷ 100 ∷ 115 ∷ 32 ∷ decimal n

-- the line of a shown set
unfoldable pub line_of : Shown → List ℕ
line_of s =
    hex_text 4 s.key ++ 32 ∷ state_text s.on ++ ids_text (length s.set.items)
    ++ pairs_text (key_width s.key) s.set.items
    ++ dead_text rds (eqb (s.set.named % 2) 1) s.set.items ++ dead_text drm (eqb (s.set.named / 2) 1) s.set.items
    ++ 10 ∷ []

unfoldable pub lines_of : List Shown → List ℕ
lines_of [] = []
lines_of (s ∷ ss) = line_of s ++ lines_of ss

-- the last line, where n bytes are left over: `tail n`
unfoldable pub tail_text : ℕ → List ℕ
tail_text n = cond (eqb n 0) [] (116 ∷ 97 ∷ 105 ∷ 108 ∷ 32 ∷ decimal n ++ 10 ∷ [])

-- `sets` and how many, a line a shown set in ascending key order, and the tail
unfoldable pub listing : Content → ℕ → List ℕ
listing t over =
    115 ∷ 101 ∷ 116 ∷ 115 ∷ 32 ∷ decimal (length (shown_sets t.sets)) ++ 10 ∷ [] ++ lines_of (shown_sets t.sets) ++ tail_text over
