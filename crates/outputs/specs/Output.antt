-- What is asked for, as bytes.
use Rattle.std.specs.Prelude.{ℕ, true, false, List}
use Rattle.rules.specs.Collecting.{Content}
use Rattle.text.specs.Listing.{listing}
use Rattle.text.specs.Confirmed.{confirmed_listing}
use Rattle.layout.specs.Sheet.{sheet}
use Rattle.pieces.specs.Air.{air}
use Rattle.columns.specs.Columns.{columns}
use Rattle.screen.specs.Screen.{totals_text}
use Rattle.outputs.specs.declared.Output.{Output}
use Rattle.outputs.specs.declared.Output.TheVariants.{Lines, Confirmed, Columns, Spreadsheet, SheetColumns, SheetSpreadsheet, Totals, Sheet, Blocks}

-- of a table that holds this, after a recording that left so many bytes over
unfoldable pub output_of : Output → ℕ → Content → List ℕ
output_of Lines over c = listing c over
output_of Confirmed over c = confirmed_listing c over
output_of Columns over c = columns false true c
output_of Spreadsheet over c = columns true true c
output_of SheetColumns over c = columns false false c
output_of SheetSpreadsheet over c = columns true false c
output_of Totals over c = totals_text c
output_of Sheet over c = sheet c
output_of Blocks over c = air c
