-- Both listings at once, as the code has them: with the numbers or without.
use Rattle.std.specs.Prelude.{ℕ, Bool, false, cond, List, [], ◌∷◌, ◌++◌, length, get_or}
use Rattle.rules.specs.Collecting.{Content, Confirmed, confirmed_sets, kind_named}
use Rattle.lists.specs.declared.IdList.{IdList}
use Rattle.lists.specs.Stored.{pairs_in}
use Rattle.sets.specs.declared.Sets.{Sets}
use Rattle.sets.specs.Shown.{shown_as}
use Rattle.out.specs.Text.{decimal}
use Rattle.text.specs.Listing.{dead_text, tail_text}
use Rattle.text.specs.Confirmed.{line_with, block_text, blocks_text}
use Rattle.text.specs.declared.Line.{Line}

-- the mark of a kind, of a list as it stands in its arrays
abbrev pub mark_text : ℕ → IdList → List ℕ
mark_text kind l = dead_text kind (kind_named l.named kind) (pairs_in l.kinds l.numbers l.len)

-- what stands in the line of the set at a place beside its identifiers
abbrev pub line_at : Bool → Sets → ℕ → Line
line_at numbered t i =
    record { numbered = numbered; key = get_or t.keys i 0; on = get_or t.on i false; block = get_or t.confirmed i 0 }

-- a set's number in its line, where lines are numbered
unfoldable pub number_text : Bool → ℕ → List ℕ
number_text numbered n = cond numbered (block_text n) []

-- the line of a set, of its list as it stands in its arrays
abbrev pub line_in : Line → IdList → List ℕ
line_in line l = line_with (number_text line.numbered line.block) (shown_as line.key line.on l)

unfoldable pub lines_in : Bool → List Confirmed → List ℕ
lines_in numbered [] = []
lines_in numbered (c ∷ cs) = line_with (number_text numbered c.block) c.shown ++ lines_in numbered cs

-- the first line: `sets` and how many, and `blocks` and how many where lines are numbered
unfoldable pub first_text : Bool → ℕ → ℕ → List ℕ
first_text numbered sets blocks = 115 ∷ 101 ∷ 116 ∷ 115 ∷ 32 ∷ decimal sets ++ cond numbered (blocks_text blocks) [] ++ 10 ∷ []

-- the whole
unfoldable pub listed : Bool → Content → ℕ → List ℕ
listed numbered t over =
    first_text numbered (length (confirmed_sets t.sets)) t.blocks ++ lines_in numbered (confirmed_sets t.sets) ++ tail_text over
