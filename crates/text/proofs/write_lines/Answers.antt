-- `text::write_lines` meets its contract: the sets in the arrays of a stored table are those of its content, and the lines
-- follow each other.
use native.Mathlib.Omega.{arith}
use mathlib.Core.Path.{refl}
use borrow.Author.Rules.{rules}
use Rattle.table.proofs.GivenLaws.{given_wrong, given_right, tested_short}
use Rattle.out.specs.Answer.{written_as}
use Rattle.out.proofs.Pages.{writes_as, writes_then}
use Rattle.out.proofs.Answers.{written_short, page_done}
use Rattle.text.proofs.SetLaws.{listed_of, listed_size}
use Rattle.text.proofs.write_lines.Goals as goal

pub returns-then-not-meets : goal.returns-then-not-meets
unfolding written_as
returns-then-not-meets c = given_wrong c.meets.ensures c.if-not-meets.true refl

pub lines_size-requires : goal.lines_size-requires
lines_size-requires c = tested_short c.args.table c.meets.ensures c.if-not-meets.false

-- of a stored table the parts make the listing, and the sizes that are added up its size
pub returns-then-out-size : goal.returns-then-out-size
returns-then-out-size c = given_right c.meets.ensures c.if-not-meets.false (λ d m e.
    let size = listed_size c.args.numbered c.args.table d m e c.args.over _ c.shown_count-count.ensures c.first_size.ensures.0 c.lines_size.ensures.0 c.tail_size.ensures.0 in
    written_short _ _ (omega (arith, c.if-out-size.true, size)))

pub put_lines-requires : goal.put_lines-requires
put_lines-requires c = tested_short c.args.table c.meets.ensures c.if-not-meets.false

pub returns : goal.returns
returns c = given_right c.meets.ensures c.if-not-meets.false (λ d m e.
    let text = listed_of c.args.numbered c.args.table d m e c.args.over _ c.shown_count-count.ensures in
    let size = listed_size c.args.numbered c.args.table d m e c.args.over _ c.shown_count-count.ensures c.first_size.ensures.0 c.lines_size.ensures.0 c.tail_size.ensures.0 in
    page_done
    c.over-page.ensures.over
    (writes_as text (writes_then (writes_then c.put_first.ensures c.put_lines.ensures) c.put_tail.ensures))
    c.size.ensures
    (search rules)
    (omega (arith, c.if-out-size.false, size)))
