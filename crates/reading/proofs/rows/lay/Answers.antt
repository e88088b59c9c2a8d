-- `rows::lay` meets its contract: the list's first places, over what stood in the row.
use Rattle.reading.proofs.RowLaws.{row_packed}
use borrow.Author.Rules.{rules}
use Rattle.reading.proofs.rows.lay.Goals as goal

pub returns : goal.returns
returns c = row_packed _ _ _ _ _ _ (search rules) (search rules) c.min-len.ensures c.copy_row.ensures.0 c.copy_row.ensures.1
