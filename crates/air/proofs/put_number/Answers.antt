-- `air::put_number` meets its contract: the last bytes of the four.
use Rattle.out.proofs.Pages.{writes_as}
use Rattle.air.proofs.Blocks.{last_bytes}
use Rattle.air.proofs.put_number.Goals as goal

pub returns : goal.returns
returns c = writes_as (last_bytes c.args.width c.args.n c.requires c.to_be_bytes.ensures) c.put_bytes.ensures
