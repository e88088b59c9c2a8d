-- `crc::up_four` meets its contract: by four_up of proofs/Register.antt, with the entry of the four bits that move out. Assumes nothing.
use Prim.Native.Nat.{◌/◌}
use native.Mathlib.Omega.{arith}
use Rattle.crc.proofs.Register.{four_up}
use Rattle.crc.proofs.up_four.Goals as goal

pub returns : goal.returns
returns c = rw c.from-top.ensures (four_up c.args.r _ (c.requires.entry (c.args.r / 4096) (omega arith)))
