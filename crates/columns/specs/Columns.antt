-- The sets of a table in columns, for eyes and for a spreadsheet. A row has one code, in the column of its kind: what stands
-- side by side in a row cannot be taken for a pair of codes that belong together. Where rows are numbered, the last column has the
-- number of the block at which the set was last shown (document 02, R-9).
use Rattle.std.specs.Prelude.{ℕ, ◌+◌, ◌-◌, ◌*◌, ◌/◌, ◌%◌, Bool, cond, ◌||◌, List, [], ◌∷◌, ◌++◌, length, replicate, eqb}
use Rattle.std.proofs.Math.Option.{Option, none, some}
use Rattle.rules.specs.Field.{Pair, dab, rds, drm}
use Rattle.rules.specs.Collecting.{Content, Shown, Confirmed, confirmed_sets, key_width}
use Rattle.lists.specs.Kinds.{is_dead}
use Rattle.out.specs.Text.{hex_text, decimal}
use Rattle.text.specs.Listing.{state_text}

-- ---- the rows of a set

-- what stands in a cell: nothing, a code in this many hexadecimal digits, or that its kind is named and has no code
pub data Cell : Type 0 where
  blank : Cell
  code : ℕ → ℕ → Cell
  dead : Cell

-- a row: the set, on or off, the columns of the DAB services, of the FM (RDS) codes, and of DRM or AMSS, and the set's number or
-- none
pub record Row : Type 0 where
  pub key : ℕ
  pub on : Bool
  pub dabs : Cell
  pub fms : Cell
  pub drms : Cell
  pub block : Option ℕ

-- a set's number, where rows are numbered
unfoldable pub number_if : Bool → ℕ → Option ℕ
number_if numbered n = cond numbered (some n) none

-- a row of the set of a key, on or off, with this number or none, and with this cell in the column of a kind
unfoldable pub row_of : ℕ → Bool → Option ℕ → ℕ → Cell → Row
row_of key on block kind c =
    record {
      key = key;
      on = on;
      dabs = cond (eqb kind dab) c blank;
      fms = cond (eqb kind rds) c blank;
      drms = cond (eqb kind dab || eqb kind rds) blank c;
      block = block;
    }

-- a row for each identifier, in order
unfoldable pub code_rows : Option ℕ → Shown → List Pair → List Row
code_rows block s [] = []
code_rows block s (p ∷ ps) =
    row_of s.key s.on block p.kind (code (2 * key_width s.key) p.number) ∷ code_rows block s ps

-- a row for a named kind without identifiers
unfoldable pub dead_rows : Option ℕ → Shown → ℕ → Bool → List Row
dead_rows block s kind named = cond (is_dead kind named s.set.items) (row_of s.key s.on block kind dead ∷ []) []

unfoldable pub rows_of : Option ℕ → Shown → List Row
rows_of block s =
    code_rows block s s.set.items ++ dead_rows block s rds (eqb (s.set.named % 2) 1)
    ++ dead_rows block s drm (eqb (s.set.named / 2) 1)

-- ---- their text, for a spreadsheet (csv) or for eyes

-- for eyes, blanks up to the column's width
unfoldable pub filled : Bool → ℕ → List ℕ → List ℕ
filled csv width text = cond csv text (text ++ replicate (width - length text) 32)

-- between two columns: `,` or ` | `
unfoldable pub gap : Bool → List ℕ
gap csv = cond csv (44 ∷ []) (32 ∷ 124 ∷ 32 ∷ [])

-- five cells in a line
unfoldable pub cells_text : Bool → List ℕ → List ℕ → List ℕ → List ℕ → List ℕ → List ℕ
cells_text csv set state dabs fms drms =
    filled csv 4 set ++ gap csv ++ filled csv 5 state ++ gap csv ++ filled csv 9 dabs ++ gap csv ++ filled csv 9 fms ++ gap csv
    ++ filled csv 9 drms

-- the end of a line, with a last column or without
unfoldable pub end_text : Bool → Option (List ℕ) → List ℕ
end_text csv none = 10 ∷ []
end_text csv (some text) = gap csv ++ filled csv 10 text ++ 10 ∷ []

-- a code; after `0x` for a spreadsheet, which would take 2E04 or 0012 for a number
unfoldable pub code_text : Bool → ℕ → ℕ → List ℕ
code_text csv digits n = cond csv (48 ∷ 120 ∷ hex_text digits n) (hex_text digits n)

-- nothing, a code, or `dead link`
unfoldable pub cell_text : Bool → Cell → List ℕ
cell_text csv blank = []
cell_text csv (code digits n) = code_text csv digits n
cell_text csv dead = 100 ∷ 101 ∷ 97 ∷ 100 ∷ 32 ∷ 108 ∷ 105 ∷ 110 ∷ 107 ∷ []

-- a number in decimal, or none
unfoldable pub number_text : Option ℕ → Option (List ℕ)
number_text none = none
number_text (some n) = some (decimal n)

unfoldable pub row_text : Bool → Row → List ℕ
row_text csv r =
    cells_text csv (code_text csv 4 r.key) (state_text r.on) (cell_text csv r.dabs) (cell_text csv r.fms) (cell_text csv r.drms)
    ++ end_text csv (number_text r.block)

unfoldable pub rows_text : Bool → List Row → List ℕ
rows_text csv [] = []
rows_text csv (r ∷ rs) = row_text csv r ++ rows_text csv rs

-- how many places a line has for eyes
unfoldable pub line_width : Bool → ℕ
line_width numbered = cond numbered 61 48

-- for eyes, a line of dashes under the heading and under each set
unfoldable pub rule_text : Bool → Bool → List ℕ
rule_text csv numbered = cond csv [] (replicate (line_width numbered) 45 ++ 10 ∷ [])

-- the names of the first five columns: `set`, `state`, `DAB`, `FM (RDS)`, `DRM/AMSS`
unfoldable pub names_text : Bool → List ℕ
names_text csv =
    cells_text csv (115 ∷ 101 ∷ 116 ∷ []) (115 ∷ 116 ∷ 97 ∷ 116 ∷ 101 ∷ []) (68 ∷ 65 ∷ 66 ∷ [])
    (70 ∷ 77 ∷ 32 ∷ 40 ∷ 82 ∷ 68 ∷ 83 ∷ 41 ∷ []) (68 ∷ 82 ∷ 77 ∷ 47 ∷ 65 ∷ 77 ∷ 83 ∷ 83 ∷ [])

-- the name of the last, where rows are numbered: `block`
unfoldable pub last_name : Bool → Option (List ℕ)
last_name numbered = cond numbered (some (98 ∷ 108 ∷ 111 ∷ 99 ∷ 107 ∷ [])) none

unfoldable pub heading_text : Bool → Bool → List ℕ
heading_text csv numbered = names_text csv ++ end_text csv (last_name numbered)

unfoldable pub sets_text : Bool → Bool → List Confirmed → List ℕ
sets_text csv numbered [] = []
sets_text csv numbered (c ∷ cs) =
    rows_text csv (rows_of (number_if numbered c.block) c.shown) ++ rule_text csv numbered ++ sets_text csv numbered cs

-- the heading, and the rows of each shown set in ascending key order
unfoldable pub columns : Bool → Bool → Content → List ℕ
columns csv numbered t = heading_text csv numbered ++ rule_text csv numbered ++ sets_text csv numbered (confirmed_sets t.sets)

-- ---- what the rows promise (proofs/Columns.antt)

-- the number of a code in front of the others; of a blank or a dead link there is none
unfoldable pub code_in : Cell → List ℕ → List ℕ
code_in blank rest = rest
code_in (code digits n) rest = n ∷ rest
code_in dead rest = rest

-- the numbers of the codes in a column, in order
unfoldable pub codes_in : (Row → Cell) → List Row → List ℕ
codes_in column [] = []
codes_in column (r ∷ rs) = code_in (column r) (codes_in column rs)

-- the numbers of the identifiers of a kind, in order
unfoldable pub numbers_of : ℕ → List Pair → List ℕ
numbers_of kind [] = []
numbers_of kind (p ∷ ps) = cond (eqb p.kind kind) (p.number ∷ numbers_of kind ps) (numbers_of kind ps)

-- 0 for a blank cell, 1 for another
unfoldable pub stands_in : Cell → ℕ
stands_in blank = 0
stands_in (code digits n) = 1
stands_in dead = 1

-- how many cells of a row are not blank
unfoldable pub cells_in : Row → ℕ
cells_in r = stands_in r.dabs + stands_in r.fms + stands_in r.drms
