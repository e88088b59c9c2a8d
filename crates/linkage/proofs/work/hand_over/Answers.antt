-- `work::hand_over` meets its contract: what is delivered is all of what was asked for, of what was read.
use Rattle.linkage.proofs.Laws.{held_made}
use Rattle.linkage.proofs.work.hand_over.Goals as goal

pub deliver-requires : goal.deliver-requires
deliver-requires c = held_made _ c.args.table c.args.rest _ _ _ _ c.requires c.in-Ok.ensures c.front.ensures
