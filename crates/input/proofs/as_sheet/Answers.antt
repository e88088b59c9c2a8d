-- `input::as_sheet` meets its contract: the bytes are those that it is given.
use mathlib.Core.Path.{refl}
use Rattle.input.proofs.as_sheet.Goals as goal

pub returns : goal.returns
returns c =
    record { bytes = c.args.bytes.now; each = λ i. (c.type_inv.bytes i).fits; size = refl; loads = c.load_sheet.ensures }
