-- `columns::put_code` meets its contract: the digits, in one form after `0x`.
use Rattle.out.proofs.Pages.{writes_as, writes_then}
use Rattle.columns.specs.Columns.{code_text}
use Rattle.columns.proofs.put_code.Goals as goal
use Rattle.columns.proofs.put_code.Goals.{then-csv, else-csv}

pub returns : goal.returns
unfolding code_text
returns c =
    elim c.if-csv.branch [
      | then-csv w ↦ writes_as (rw w.if-csv.true) (writes_then w.put_bytes.ensures (rw w.page-is at c.put_hex.ensures))
      | else-csv w ↦ writes_as (rw w.if-csv.false) (rw w.page-is at c.put_hex.ensures)
    ]
