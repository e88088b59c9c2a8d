-- `reading::read_block` meets its contract: the table's own test, the block's length, and one block of a run.
use mathlib.Core.Path.{◌∙◌}
use Rattle.rules.specs.declared.Outcome.TheVariants.{WrongTable}
use Rattle.table.specs.Stored.{stored}
use Rattle.table.proofs.GivenLaws.{given_wrong, given_right}
use Rattle.reading.specs.Runs.{Runs, refused_table}
use Rattle.reading.proofs.RunLaws.{run_answers, not_a_block}
use Rattle.reading.proofs.read_block.Goals as goal

pub returns-then-not-meets : goal.returns-then-not-meets
unfolding refused_table
returns-then-not-meets c = given_wrong c.meets.ensures c.if-not-meets.true (λ i. record { outcome = WrongTable; place = 0; notes = c.none.ensures i; table = c.args.table })

pub returns-then-fib-ne32 : goal.returns-then-fib-ne32
returns-then-fib-ne32 c = given_right c.meets.ensures c.if-not-meets.false (λ d m e. not_a_block d _ _ _ e c.if-fib-ne32.true c.none-then-fib-ne32.ensures)

pub run_blocks-run-requires : goal.run_blocks-run-requires
run_blocks-run-requires c = c.meets.ensures.sound c.if-not-meets.false

pub returns : goal.returns
unfolding Runs
returns c =
    let w = c.run_blocks-run.ensures in
    stored w.0 w.1 w.2 (c.answer.ensures ∙ run_answers w.0 _ _ c.if-fib-ne32.false w.3)
