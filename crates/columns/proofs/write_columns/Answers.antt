-- `columns::write_columns` meets its contract: the sets in the arrays of a stored table are those of its content, and their
-- text follows the heading.
use native.Mathlib.Omega.{arith}
use mathlib.Core.Path.{refl}
use borrow.Author.Rules.{rules}
use Rattle.table.proofs.GivenLaws.{sets_are, given_wrong, given_right, tested_short}
use Rattle.out.specs.Answer.{written_as}
use Rattle.out.proofs.Pages.{writes_as, writes_then}
use Rattle.out.proofs.Answers.{written_short, page_done}
use Rattle.columns.proofs.Whole.{columns_of, columns_size}
use Rattle.columns.proofs.write_columns.Goals as goal

pub returns-then-not-meets : goal.returns-then-not-meets
unfolding written_as
returns-then-not-meets c = given_wrong c.meets.ensures c.if-not-meets.true refl

pub sets_size-requires : goal.sets_size-requires
sets_size-requires c = tested_short c.args.table c.meets.ensures c.if-not-meets.false

pub put_sets-requires : goal.put_sets-requires
put_sets-requires c = tested_short c.args.table c.meets.ensures c.if-not-meets.false

pub returns-then-out-heading_size : goal.returns-then-out-heading_size
returns-then-out-heading_size c =
    let a = c.args in
    given_right c.meets.ensures c.if-not-meets.false (λ d m e.
    written_short _ _ (omega (arith, c.if-out-heading_size.true, columns_size a.csv a.numbered a.table.sets d m (sets_are _ d m e) c.heading_size.ensures.0 c.sets_size.ensures.0)))

pub returns : goal.returns
returns c =
    let a = c.args in
    given_right c.meets.ensures c.if-not-meets.false (λ d m e.
    page_done
    c.over-page.ensures.over
    (writes_as (columns_of a.csv a.numbered a.table.sets d m (sets_are _ d m e)) (writes_then c.put_heading.ensures c.put_sets.ensures))
    c.size.ensures
    (search rules)
    (omega (arith, c.if-out-heading_size.false, columns_size a.csv a.numbered a.table.sets d m (sets_are _ d m e) c.heading_size.ensures.0 c.sets_size.ensures.0)))
