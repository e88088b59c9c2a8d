-- `crc::check_of` meets its contract. The loop's invariant: what the bytes still to come leave of the register is what all
-- the bytes leave of the register all ones. That each entry of the table is what its four bits leave is computed at the call of
-- byte_in, from the polynomial. Assumes nothing.
use mathlib.Core.Path.{◌≡◌}
use mathlib.Core.Bool.{true}
use lib.ListN.{drop, replicate}
use Rattle.rules.specs.Block.{bits, register}
use Rattle.crc.proofs.check_of.Given as goal

abbrev pub invariant-loop-b : goal.invariant-loop-b
invariant-loop-b l = register (bits 16 l.r) (drop l.b-index l.bytes) ≡ register (replicate 16 true) l.bytes
