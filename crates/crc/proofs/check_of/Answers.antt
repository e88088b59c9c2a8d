use mathlib.Core.Path.{◌≡◌, refl, sym, ap, ◌∙◌}
use mathlib.Core.Bool.{Bool, true, not, xor}
use mathlib.Core.List.{List, [], map, zip_with}
use native.Mathlib.Omega.{arith}
use lib.ListN.{drop, replicate, drop_of_length-le}
use Prim.Native.Nat.{◌<◌}
use Rattle.rules.specs.Block.{bits, number, generator, shift, shifts, register, check_of}
use Rattle.rules.proofs.Arrays.{tabulate}
use Rattle.crc.specs.Remainders.{remainder}
use Rattle.crc.proofs.Sizes.{check_small}
use Rattle.crc.proofs.Register.{all_right, byte_enters, check_of_register}
use Rattle.crc.proofs.check_of.Goals as goal

pub loop-b-init : goal.loop-b-init
unfolding bits
loop-b-init c = refl

pub byte_in-r-requires : goal.byte_in-r-requires
unfolding bits shift shifts generator zip_with xor tabulate remainder
byte_in-r-requires c = all_right refl

pub loop-b-preserved : goal.loop-b-preserved
loop-b-preserved c =
    let at = c.loop-b in
    rw c.byte_in-r.ensures (byte_enters (bits 16 at.r) c.args.bytes.now at.b-index c.loop-b-test.true ∙ at.invariant)

pub returns : goal.returns
unfolding check_of register
returns c =
    let at = c.loop-b in
    let small : at.r < 65536 = omega (arith, at.auto.r-fits) in
    let bytes = c.args.bytes.now in
    let rest : drop at.b-index bytes ≡ [] = drop_of_length-le bytes c.loop-b-test.false in
    let all : bits 16 at.r ≡ register (replicate 16 true) bytes = rw rest at at.invariant in
    let check : c.from.result ≡ check_of bytes =
    c.from.ensures ∙ sym (check_of_register at.r small) ∙ ap (λ (l : List Bool). number 0 (map not l)) all in
    (check, omega (arith, check, check_small bytes))
