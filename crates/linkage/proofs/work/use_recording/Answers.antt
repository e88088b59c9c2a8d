-- `work::use_recording` meets its contract: what is handed over was read as a recording.
use Rattle.linkage.proofs.Laws.{recording_held}
use Rattle.linkage.proofs.work.use_recording.Goals as goal

pub hand_over-requires : goal.hand_over-requires
hand_over-requires c = recording_held _ c.receive-received.ensures
