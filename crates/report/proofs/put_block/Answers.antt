-- `report::put_block` meets its contract: what is refused, and is a block, has its line.
use mathlib.Core.Path.{sym, ap, ◌∙◌}
use Rattle.rules.specs.declared.Outcome.{Outcome}
use Rattle.report.specs.Report.{refusal_line}
use borrow.Author.Tests.{not-true, not-false}
use Rattle.out.proofs.Pages.{writes_none, writes_as}
use Rattle.report.proofs.Lines.{no_block_number, line_in, refused_in, told_law}
use Rattle.report.proofs.put_block.Goals as goal

pub returns-in-Err : goal.returns-in-Err
unfolding line_in refused_in
returns-in-Err c =
    let r = c.in-Err.refused in
    let other = no_block_number r.fault ∙ not-true _ (sym c.ne.ensures ∙ c.if-ne.true) in
    let told = told_law c.args.block c.args.fib.now (sym c.in-Err.is ∙ c.judge.ensures) in
    record {
      writes = writes_as (ap (λ (o : Outcome). refusal_line c.args.block o r.place) c.from.ensures ∙ rw other at told.0) c.put_refusal.ensures;
      refused_is = rw other at told.1;
    }

pub returns-in_default : goal.returns-in_default
unfolding line_in refused_in
returns-in_default c =
    let none = no_block_number c.in-Err.refused.fault ∙ not-false _ (sym c.ne.ensures ∙ c.if-ne.false) in
    let told = told_law c.args.block c.args.fib.now (sym c.in-Err.is ∙ c.judge.ensures) in
    record { writes = writes_as (rw none at told.0) (writes_none _); refused_is = rw none at told.1 }

pub returns-in_default-2 : goal.returns-in_default-2
unfolding line_in refused_in
returns-in_default-2 c =
    let told = told_law c.args.block c.args.fib.now (sym c.in_default.is ∙ c.judge.ensures) in
    record { writes = writes_as told.0 (writes_none _); refused_is = told.1 }
