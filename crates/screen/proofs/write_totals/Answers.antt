-- `screen::write_totals` meets its contract: a table that meets the rules stores the sums of its content.
use native.Mathlib.Omega.{arith}
use mathlib.Core.Path.{◌≡◌, refl, ap}
use lib.ListN.{length}
use Rattle.rules.specs.Collecting.{Content}
use Rattle.table.specs.declared.Table.{Table}
use Rattle.table.specs.Stored.{store_table}
use Rattle.table.proofs.GivenLaws.{given_wrong, given_right}
use Rattle.out.specs.Answer.{written_as}
use borrow.Author.Rules.{rules}
use Rattle.out.proofs.Pages.{writes_as}
use Rattle.out.proofs.Answers.{written_short, page_done}
use Rattle.screen.specs.Screen.{line_of, totals_text}
use Rattle.screen.proofs.write_totals.Goals as goal

pub returns-then-not-meets : goal.returns-then-not-meets
unfolding written_as
returns-then-not-meets c = given_wrong c.meets.ensures c.if-not-meets.true refl

-- the line of a stored table is that of its content
line_is : (t : Table) (d : Content) → t ≡ store_table d → line_of t.totals ≡ totals_text d
unfolding totals_text
line_is t d e = ap (λ (u : Table). line_of u.totals) e

pub returns-then-out-line_size : goal.returns-then-out-line_size
returns-then-out-line_size c =
    given_right c.meets.ensures c.if-not-meets.false (λ d m e.
    written_short _ _ (omega (arith, c.if-out-line_size.true, c.line_size.ensures.0, ap length (line_is _ d e))))

pub returns : goal.returns
returns c =
    given_right c.meets.ensures c.if-not-meets.false (λ d m e.
    page_done
    c.over-page.ensures.over
    (writes_as (line_is _ d e) c.put_line.ensures)
    c.size.ensures
    (search rules)
    (omega (arith, c.if-out-line_size.false, c.line_size.ensures.0, ap length (line_is _ d e))))
