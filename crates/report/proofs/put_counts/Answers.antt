-- `report::put_counts` meets its contract: its parts one after another.
use Rattle.out.proofs.Pages.{writes_then}
use Rattle.report.specs.Report.{counts_text}
use Rattle.report.proofs.put_counts.Goals as goal

pub returns : goal.returns
unfolding counts_text
returns c =
    writes_then
    (writes_then
    (writes_then
    (writes_then (writes_then c.put_bytes.ensures c.put_decimal.ensures) (writes_then c.put_bytes-2.ensures c.put_decimal-2.ensures))
    c.put.ensures)
    c.put_count.ensures)
    c.put_count-2.ensures
