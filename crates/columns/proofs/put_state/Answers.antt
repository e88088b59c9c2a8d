-- `columns::put_state` meets its contract: the word of each state, and the blanks after it.
use Rattle.text.specs.Listing.{state_text}
use Rattle.out.proofs.Pages.{writes_as, writes_then}
use Rattle.columns.proofs.Lines.{filled_parts}
use Rattle.columns.proofs.put_state.Goals as goal

pub returns-then-on : goal.returns-then-on
unfolding state_text
returns-then-on c = writes_as (rw c.if-on.true (filled_parts c.args.csv 5 _)) (writes_then c.put_bytes.ensures c.put_fill.ensures)

pub returns-else-on : goal.returns-else-on
unfolding state_text
returns-else-on c = writes_as (rw c.if-on.false (filled_parts c.args.csv 5 _)) (writes_then c.put_bytes-else-on.ensures c.put_fill-else-on.ensures)
