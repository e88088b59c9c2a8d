-- `report::put_where` meets its contract: nothing where the check fails, and else some words and the place.
use mathlib.Core.Path.{◌≡◌, sym, ◌∙◌}
use mathlib.Core.Bool.{true, false}
use lib.Dec.{eqb}
use Rattle.rules.specs.Outcomes.{number_of}
use borrow.Author.Tests.{not-true, not-false}
use Rattle.out.proofs.Pages.{writes_none, writes_as, writes_then}
use Rattle.report.specs.Report.{place_text}
use Rattle.report.proofs.Called.{check_number}
use Rattle.report.proofs.put_where.Goals as goal

pub returns-then-ne : goal.returns-then-ne
unfolding place_text
returns-then-ne c =
    let told : eqb (number_of c.args.outcome) 2 ≡ false = check_number c.args.outcome ∙ not-true _ (sym c.ne.ensures ∙ c.if-ne.true) in
    writes_as (rw told) (writes_then c.put_bytes.ensures c.put_decimal.ensures)

pub returns-else-ne : goal.returns-else-ne
unfolding place_text
returns-else-ne c =
    let none : eqb (number_of c.args.outcome) 2 ≡ true = check_number c.args.outcome ∙ not-false _ (sym c.ne.ensures ∙ c.if-ne.false) in
    writes_as (rw none) (writes_none _)
