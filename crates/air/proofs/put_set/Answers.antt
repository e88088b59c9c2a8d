-- `air::put_set` meets its contract.
use Rattle.out.proofs.Pages.{writes_then, writes_as}
use Rattle.air.proofs.Output.{set_made}
use Rattle.air.proofs.put_set.Goals as goal

pub returns : goal.returns
returns c =
    let h = c.args.head in
    writes_as (set_made h.key h.on c.args.list.now)
    (writes_then (writes_then c.put_cut.ensures c.put_dead.ensures) c.put_dead-2.ensures)
