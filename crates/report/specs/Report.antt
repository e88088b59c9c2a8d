-- The report of a recording (document 02, R-1): a line for each refused block, in order, and then the counts, as bytes.
use Rattle.std.specs.Prelude.{ℕ, zero, suc, ◌+◌, ◌/◌, cond, List, [], ◌∷◌, ◌++◌, length, take, drop, eqb}
use Rattle.rules.specs.declared.Outcome.{Outcome}
use Rattle.rules.specs.Collecting.{nothing}
use Rattle.rules.specs.Outcomes.{number_of, Verdict, taken, refused, no_block, verdict, refusals, left_over, roomless}
use Rattle.out.specs.Text.{decimal}

-- ---- the line of a refused block: `block 17: 3 at byte 12, wrong FIG`, `block 18: 2, check fails`

-- what an answer is called, by its number: `check fails`, `wrong FIG`, `wrong field`, `wrong value`, `empty start`
unfoldable pub words_of : ℕ → List ℕ
words_of n =
    cond (eqb n 2) (99 ∷ 104 ∷ 101 ∷ 99 ∷ 107 ∷ 32 ∷ 102 ∷ 97 ∷ 105 ∷ 108 ∷ 115 ∷ [])
    (cond (eqb n 3) (119 ∷ 114 ∷ 111 ∷ 110 ∷ 103 ∷ 32 ∷ 70 ∷ 73 ∷ 71 ∷ [])
    (cond (eqb n 4) (119 ∷ 114 ∷ 111 ∷ 110 ∷ 103 ∷ 32 ∷ 102 ∷ 105 ∷ 101 ∷ 108 ∷ 100 ∷ [])
    (cond (eqb n 5) (119 ∷ 114 ∷ 111 ∷ 110 ∷ 103 ∷ 32 ∷ 118 ∷ 97 ∷ 108 ∷ 117 ∷ 101 ∷ [])
    (cond (eqb n 6) (101 ∷ 109 ∷ 112 ∷ 116 ∷ 121 ∷ 32 ∷ 115 ∷ 116 ∷ 97 ∷ 114 ∷ 116 ∷ []) []))))

-- ` at byte ` and the place; a check that fails has none
unfoldable pub place_text : ℕ → ℕ → List ℕ
place_text n place = cond (eqb n 2) [] (32 ∷ 97 ∷ 116 ∷ 32 ∷ 98 ∷ 121 ∷ 116 ∷ 101 ∷ 32 ∷ decimal place)

-- `block `, its number, the answer's number, the place, and what the answer is called
unfoldable pub refusal_line : ℕ → Outcome → ℕ → List ℕ
refusal_line block o place =
    98 ∷ 108 ∷ 111 ∷ 99 ∷ 107 ∷ 32 ∷ decimal block ++ 58 ∷ 32 ∷ decimal (number_of o) ++ place_text (number_of o) place
    ++ 44 ∷ 32 ∷ words_of (number_of o) ++ 10 ∷ []

-- ---- the lines of the blocks

-- a block that is taken has none
unfoldable pub block_line : ℕ → Verdict → List ℕ
block_line block (taken fs) = []
block_line block (refused o place) = refusal_line block o place
block_line block no_block = []

-- of the first n blocks of some bytes, after so many blocks before; blocks are numbered from 1
unfoldable pub lines_of : ℕ → ℕ → List ℕ → List ℕ
lines_of zero before bytes = []
lines_of (suc n) before bytes = block_line (before + 1) (verdict (take 32 bytes)) ++ lines_of n (before + 1) (drop 32 bytes)

-- ---- the counts

-- a line that is some words and a count, where the count is not 0
unfoldable pub count_line : List ℕ → ℕ → List ℕ
count_line words n = cond (eqb n 0) [] (words ++ decimal n ++ 10 ∷ [])

-- `blocks 240, refused 2`; then, where there are any, `starts without room 8`, and `rest 5`
unfoldable pub counts_text : ℕ → ℕ → ℕ → ℕ → List ℕ
counts_text blocks refusals full rest =
    98 ∷ 108 ∷ 111 ∷ 99 ∷ 107 ∷ 115 ∷ 32 ∷ decimal blocks ++ 44 ∷ 32 ∷ 114 ∷ 101 ∷ 102 ∷ 117 ∷ 115 ∷ 101 ∷ 100 ∷ 32 ∷ decimal refusals ++ 10 ∷ []
    ++ count_line (115 ∷ 116 ∷ 97 ∷ 114 ∷ 116 ∷ 115 ∷ 32 ∷ 119 ∷ 105 ∷ 116 ∷ 104 ∷ 111 ∷ 117 ∷ 116 ∷ 32 ∷ 114 ∷ 111 ∷ 111 ∷ 109 ∷ 32 ∷ []) full
    ++ count_line (114 ∷ 101 ∷ 115 ∷ 116 ∷ 32 ∷ []) rest

-- ---- the whole

-- of a recording, read into a table that holds nothing
unfoldable pub report : List ℕ → List ℕ
report bytes =
    lines_of (length bytes / 32) 0 bytes
    ++ counts_text (length bytes / 32) (refusals bytes) (roomless nothing bytes) (left_over bytes)
