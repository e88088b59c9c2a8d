-- The listing with numbers (document 02, R-9): the listing's lines, in each the number of the block at which its set was last shown,
-- and in the first line how many blocks the table has counted. As its bytes.
use Rattle.std.specs.Prelude.{ℕ, ◌/◌, ◌%◌, List, [], ◌∷◌, ◌++◌, length, eqb}
use Rattle.rules.specs.Field.{rds, drm}
use Rattle.rules.specs.Collecting.{Content, Shown, Confirmed, confirmed_sets, key_width}
use Rattle.out.specs.Text.{hex_text, decimal}
use Rattle.text.specs.Listing.{state_text, ids_text, pairs_text, dead_text, tail_text}

-- the line of a shown set with a text between its state and ` ids`; with none it is the listing's, `line_of`
unfoldable pub line_with : List ℕ → Shown → List ℕ
line_with text s =
    hex_text 4 s.key ++ 32 ∷ state_text s.on ++ (text ++ ids_text (length s.set.items))
    ++ pairs_text (key_width s.key) s.set.items
    ++ dead_text rds (eqb (s.set.named % 2) 1) s.set.items ++ dead_text drm (eqb (s.set.named / 2) 1) s.set.items
    ++ 10 ∷ []

-- ` #` and a block's number
unfoldable pub block_text : ℕ → List ℕ
block_text n = 32 ∷ 35 ∷ decimal n

-- the line of a shown set with its number
unfoldable pub confirmed_line : Confirmed → List ℕ
confirmed_line c = line_with (block_text c.block) c.shown

unfoldable pub confirmed_lines : List Confirmed → List ℕ
confirmed_lines [] = []
confirmed_lines (c ∷ cs) = confirmed_line c ++ confirmed_lines cs

-- ` blocks ` and how many
unfoldable pub blocks_text : ℕ → List ℕ
blocks_text n = 32 ∷ 98 ∷ 108 ∷ 111 ∷ 99 ∷ 107 ∷ 115 ∷ 32 ∷ decimal n

-- `sets` and how many, `blocks` and how many, a line a shown set in ascending key order, and the tail
unfoldable pub confirmed_listing : Content → ℕ → List ℕ
confirmed_listing t over =
    115 ∷ 101 ∷ 116 ∷ 115 ∷ 32 ∷ decimal (length (confirmed_sets t.sets)) ++ blocks_text t.blocks ++ 10 ∷ []
    ++ confirmed_lines (confirmed_sets t.sets) ++ tail_text over
