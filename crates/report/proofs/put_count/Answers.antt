-- `report::put_count` meets its contract: nothing where the count is 0, and else the words, the count and the end of a line.
use borrow.Author.Tests.{eq-eqb, ne_eqb}
use Rattle.out.proofs.Pages.{writes_none, writes_as, writes_then}
use Rattle.report.specs.Report.{count_line}
use Rattle.report.proofs.put_count.Goals as goal

pub returns-then-n-ne0 : goal.returns-then-n-ne0
unfolding count_line
returns-then-n-ne0 c =
    writes_as (rw (ne_eqb c.args.n 0 c.if-n-ne0.true)) (writes_then (writes_then c.put_bytes.ensures c.put_decimal.ensures) c.put.ensures)

pub returns-else-n-ne0 : goal.returns-else-n-ne0
unfolding count_line
returns-else-n-ne0 c = writes_as (rw (eq-eqb c.args.n 0 c.if-n-ne0.false)) (writes_none _)
