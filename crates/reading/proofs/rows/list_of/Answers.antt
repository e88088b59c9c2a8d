-- `rows::list_of` meets its contract: the row's first places in arrays of zeros.
use mathlib.Core.Path.{◌∙◌}
use Rattle.rules.specs.Collecting.{most_ids}
use Rattle.reading.specs.Gathered.{row_list}
use Rattle.reading.proofs.RowLaws.{copy_zeros}
use Rattle.reading.proofs.rows.list_of.Goals as goal

pub returns : goal.returns
unfolding row_list
returns c = λ i. record { numbers = (c.copy_row.ensures.0 ∙ copy_zeros _ most_ids _ _ c.min.ensures c.requires.0) i; kinds = (c.copy_row.ensures.1 ∙ copy_zeros _ most_ids _ _ c.min.ensures c.requires.1) i; len = c.args.row.len; named = c.args.row.named }
