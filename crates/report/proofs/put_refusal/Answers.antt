-- `report::put_refusal` meets its contract: its parts one after another.
use mathlib.Core.Path.{sym}
use Rattle.out.proofs.Pages.{writes_as, writes_then}
use Rattle.report.specs.Report.{refusal_line}
use Rattle.report.proofs.put_refusal.Goals as goal

pub returns : goal.returns
unfolding refusal_line
returns c =
    writes_as (rw (c.from.ensures, c.words.ensures))
    (writes_then
    (writes_then
    (writes_then
    (writes_then (writes_then c.put_bytes.ensures c.put_decimal.ensures) (writes_then c.put_bytes-2.ensures c.put_decimal-2.ensures))
    c.put_where.ensures)
    (writes_then c.put_bytes-3.ensures c.put_bytes-4.ensures))
    c.put.ensures)
