-- `text::put_first` meets its contract: the sets, the blocks where they are asked for, and the end of the line.
use Rattle.out.proofs.Pages.{writes_then}
use Rattle.text.specs.Confirmed.{blocks_text}
use Rattle.text.specs.Lines.{first_text}
use Rattle.text.proofs.put_first.Goals as goal

pub returns : goal.returns
unfolding first_text blocks_text
returns c = writes_then (writes_then c.put_counted.ensures c.put_numbered.ensures) c.put.ensures
