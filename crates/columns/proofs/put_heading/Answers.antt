-- `columns::put_heading` meets its contract: the names, the end of the line, and the line of dashes.
use Rattle.out.proofs.Pages.{writes_then}
use Rattle.columns.specs.Columns.{heading_text}
use Rattle.columns.proofs.put_heading.Goals as goal

pub returns : goal.returns
unfolding heading_text
returns c = writes_then (writes_then c.put_names.ensures c.put_last.ensures) c.put_rule.ensures
