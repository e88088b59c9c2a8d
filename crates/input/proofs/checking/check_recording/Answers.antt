use Rattle.input.proofs.CheckLaws.{checking_failed}
use Rattle.input.proofs.checking.check_recording.Goals as goal

pub returns : goal.returns
returns g c = checking_failed _ _ c.loop-turn.invariant.read
