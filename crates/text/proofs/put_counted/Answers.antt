-- `text::put_counted` meets its contract: the word and then the count.
use Rattle.out.proofs.Pages.{writes_then}
use Rattle.text.proofs.put_counted.Goals as goal

pub returns : goal.returns
returns c = writes_then c.put_bytes.ensures c.put_decimal.ensures
