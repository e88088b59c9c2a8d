-- `table::Table::empty` meets its contract: it is the table with no sets, and so with no totals.
use mathlib.Core.Path.{ap₂, ◌∙◌}
use Rattle.rules.specs.Collecting.{shown_sets}
use Rattle.totals.specs.Totals.{sum_of, sums, totals_of}
use Rattle.table.specs.Stored.{table_of}
use Rattle.table.proofs.Table.empty.Goals as goal

pub returns : goal.returns
unfolding totals_of sums sum_of shown_sets
returns c = c.of.ensures ∙ ap₂ (λ s n. table_of s n 0) c.empty.ensures c.none.ensures
