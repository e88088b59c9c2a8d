-- `columns::put_codes` meets its contract: the rows of the pairs from the present one on are what is left to write.
use Rattle.lists.specs.Stored.{paired, pairs_in}
use Rattle.out.proofs.Pages.{Going}
use Rattle.sets.specs.Shown.{shown_as}
use Rattle.columns.specs.Columns.{code_rows, rows_text}
use Rattle.columns.specs.Cells.{number_in}
use Rattle.columns.proofs.put_codes.Given as goal

abbrev pub invariant-loop-kind : goal.invariant-loop-kind
invariant-loop-kind l =
    let s = shown_as l.rows.key l.rows.on l.list in
    Going l.initial.page (rows_text l.rows.form.csv (code_rows (number_in l.rows) s (pairs_in l.list.kinds l.list.numbers l.list.len)))
    l.page (rows_text l.rows.form.csv (code_rows (number_in l.rows) s (paired l.kind-iterator.a.rest.now l.kind-iterator.b.rest.now)))
