-- `columns::put_head` meets its contract: the key, which is as wide as its column, and the state, each with what follows it.
use Rattle.out.proofs.Pages.{writes_as, writes_then}
use Rattle.columns.proofs.Lines.{filled_key}
use Rattle.columns.proofs.put_head.Goals as goal

pub returns : goal.returns
returns c =
    let key = writes_as (filled_key c.args.csv c.args.key) c.put_code.ensures in
    writes_then (writes_then (writes_then key c.put_gap.ensures) c.put_state.ensures) c.put_gap-2.ensures
