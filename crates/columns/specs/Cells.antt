-- The parts of a row as the code has them.
use Rattle.std.specs.Prelude.{ℕ, ◌+◌, Bool, false, cond, List, ◌++◌, length, get_or, Some, None}
use Rattle.std.specs.Prelude as Std
use Rattle.std.proofs.Math.Option.{Option}
use Rattle.lists.specs.declared.IdList.{IdList}
use Rattle.sets.specs.declared.Sets.{Sets}
use Rattle.sets.specs.Shown.{shown_as}
use Rattle.text.specs.Listing.{state_text}
use Rattle.columns.specs.Columns.{Cell, code, dead, number_if, rows_of, end_text, number_text, rows_text, rule_text}
use Rattle.columns.specs.declared.Form.{Form}
use Rattle.columns.specs.declared.Rows.{Rows}

-- the one filled cell: a code in this many digits, or that there is none
unfoldable pub cell_of : ℕ → Std.Option ℕ → Cell
cell_of digits (Some n) = code digits n
cell_of digits None = dead

-- the number of the set, or none
abbrev pub number_in : Rows → Option ℕ
number_in rows = number_if rows.form.numbered rows.block

-- of the set at a place
abbrev pub rows_at : Form → Sets → ℕ → Rows
rows_at form t i = record { form = form; key = get_or t.keys i 0; on = get_or t.on i false; block = get_or t.confirmed i 0 }

-- the rows of a set, of its list as it stands in its arrays, and the line under them
abbrev pub set_text : Rows → IdList → List ℕ
set_text rows l =
    rows_text rows.form.csv (rows_of (number_in rows) (shown_as rows.key rows.on l)) ++ rule_text rows.form.csv rows.form.numbered

-- how long the row of a set is that is on or off, with this number or none, whose cell has so many bytes where nothing is filled up
unfoldable pub row_size : Bool → Bool → Option ℕ → ℕ → ℕ
row_size csv on block cell = cond csv (10 + length (state_text on) + cell) 48 + length (end_text csv (number_text block))
