-- `Reader::set` meets its contract: a head and then as many identifiers as it says.
use Rattle.sheet.proofs.Sets.{set_no_head, set_head, set_count, set_made}
use Rattle.sheet.proofs.Steps.{then_not}
use Rattle.sheet.proofs.Reader.set.Goals as goal

pub returns-in_err-head : goal.returns-in_err-head
returns-in_err-head c = set_no_head _ c.in_err-head.ensures c.from_residual.ensures

pub list-requires : goal.list-requires
list-requires c = set_count _ c.in_ok-head.ensures

pub returns-in_err-list : goal.returns-in_err-list
returns-in_err-list c = set_head _ c.in_ok-head.ensures (then_not _ c.in_err-list.ensures c.from_residual-in_err-list.ensures)

pub returns : goal.returns
returns c = set_head _ c.in_ok-head.ensures (set_made c.in_ok-head.head c.in_ok-list.ensures)
