-- `text::put_tail` meets its contract: a line of a word and a count, or nothing where no byte is left over.
use borrow.Author.Tests.{eq-eqb, ne_eqb}
use Rattle.out.proofs.Pages.{writes_none, writes_as, writes_then}
use Rattle.text.specs.Listing.{tail_text}
use Rattle.text.proofs.put_tail.Goals as goal

pub returns-then-over-ne0 : goal.returns-then-over-ne0
unfolding tail_text
returns-then-over-ne0 c = writes_as (rw (ne_eqb _ _ c.if-over-ne0.true)) (writes_then c.put_counted.ensures c.put.ensures)

pub returns-else-over-ne0 : goal.returns-else-over-ne0
unfolding tail_text
returns-else-over-ne0 c = writes_as (rw (eq-eqb _ _ c.if-over-ne0.false)) (writes_none _)
