-- `screen::put_line` meets its contract: its parts one after another.
use Rattle.out.proofs.Pages.{writes_then}
use Rattle.screen.specs.Screen.{line_of}
use Rattle.screen.proofs.put_line.Goals as goal

pub returns : goal.returns
unfolding line_of
returns c =
    writes_then
    (writes_then
    (writes_then (writes_then c.put_bytes.ensures c.put_decimal.ensures) (writes_then c.put_bytes-2.ensures c.put_decimal-2.ensures))
    (writes_then c.put_bytes-3.ensures c.put_decimal-3.ensures))
    c.put.ensures
