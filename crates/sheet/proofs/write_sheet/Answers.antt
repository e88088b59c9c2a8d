-- `sheet::write_sheet` meets its contract: a table that is not stored is refused; of another, the count and the sets are the sheet.
use native.Mathlib.Omega.{arith}
use mathlib.Core.Path.{refl}
use Rattle.table.proofs.GivenLaws.{sets_are, sets_stored, given_wrong, given_right}
use Rattle.sets.proofs.ShownLaws.{sets_few}
use Rattle.out.specs.Answer.{written_as}
use Rattle.out.proofs.Answers.{written_short, page_done}
use Rattle.sheet.proofs.Groups.{number_short}
use Rattle.sheet.proofs.Writes.{sets_short, size_sheet, writes_sheet}
use borrow.Author.Rules.{rules}
use Rattle.sheet.proofs.write_sheet.Goals as goal

pub returns-then-not-meets : goal.returns-then-not-meets
unfolding written_as
returns-then-not-meets c = given_wrong c.meets.ensures c.if-not-meets.true refl

pub overflow_cast-count : goal.overflow_cast-count
overflow_cast-count c = omega (arith, c.shown_count-count.ensures, sets_few c.args.table.sets)

pub sets_size-requires : goal.sets_size-requires
sets_size-requires c = sets_stored _ (c.meets.ensures.sound c.if-not-meets.false)

pub overflow_add-size : goal.overflow_add-size
overflow_add-size c =
    omega (
      arith,
      c.sets_size.ensures,
      sets_short _ (sets_stored _ (c.meets.ensures.sound c.if-not-meets.false)),
      c.number_size.ensures,
      number_short c.shown_count-count.result,
    )

pub returns-then-out-size : goal.returns-then-out-size
returns-then-out-size c =
    given_right c.meets.ensures c.if-not-meets.false (λ d m e.
    written_short _ _ (omega (arith, c.if-out-size.true, size_sheet _ d m (sets_are _ d m e) c.shown_count-count.ensures c.number_size.ensures c.sets_size.ensures)))

pub put_sets-requires : goal.put_sets-requires
put_sets-requires c = sets_stored _ (c.meets.ensures.sound c.if-not-meets.false)

pub returns : goal.returns
returns c =
    given_right c.meets.ensures c.if-not-meets.false (λ d m e.
    page_done
    c.over-page.ensures.over
    (writes_sheet _ d m (sets_are _ d m e) c.shown_count-count.ensures c.put_number.ensures c.put_sets.ensures)
    c.size.ensures
    (search rules)
    (omega (arith, c.if-out-size.false, size_sheet _ d m (sets_are _ d m e) c.shown_count-count.ensures c.number_size.ensures c.sets_size.ensures)))
