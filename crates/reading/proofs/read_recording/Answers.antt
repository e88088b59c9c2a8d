-- `reading::read_recording` meets its contract: the table's own test, and a run over the recording.
use mathlib.Core.Path.{refl}
use Rattle.table.specs.Stored.{stored}
use Rattle.table.proofs.GivenLaws.{given_wrong}
use Rattle.reading.specs.Runs.{Runs, unrecorded}
use Rattle.reading.proofs.RunLaws.{recorded}
use Rattle.reading.proofs.read_recording.Goals as goal

pub returns-then-not-meets : goal.returns-then-not-meets
unfolding unrecorded
returns-then-not-meets c = given_wrong c.meets.ensures c.if-not-meets.true refl

pub run_blocks-run-requires : goal.run_blocks-run-requires
run_blocks-run-requires c = c.meets.ensures.sound c.if-not-meets.false

pub returns : goal.returns
unfolding Runs
returns c =
    let w = c.run_blocks-run.ensures in
    stored w.0 w.1 w.2 (recorded w.0 _ _ w.3)
