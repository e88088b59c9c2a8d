-- `text::put_head` meets its contract: the key, the state, the number and the count, one after another.
use Rattle.out.proofs.Pages.{writes_then}
use Rattle.text.specs.Listing.{ids_text}
use Rattle.text.specs.Confirmed.{block_text}
use Rattle.text.specs.Lines.{number_text}
use Rattle.text.proofs.put_head.Goals as goal

pub returns : goal.returns
unfolding ids_text number_text block_text
returns c = writes_then (writes_then c.put_hex.ensures c.put_state.ensures) (writes_then c.put_numbered.ensures c.put_counted.ensures)
