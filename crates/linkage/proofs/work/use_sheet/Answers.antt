-- `work::use_sheet` meets its contract: what is handed over was loaded from a sheet that was accepted.
use Rattle.std.proofs.Common.{rules}
use Rattle.linkage.proofs.Laws.{fetched_held}
use Rattle.linkage.proofs.work.use_sheet.Goals as goal

pub hand_over-requires : goal.hand_over-requires
hand_over-requires c = search (rules, fetched_held)
