use native.Mathlib.Numerals.{add-one}
use mathlib.Core.Path.{ap}
use lib.ListN.{drop_of_length-le}
use lib.Seq.{drop-cons}
use Rattle.pieces.specs.Air.{all_bytes}
use Rattle.out.proofs.Pages.{going_on, going_end}
use Rattle.air.proofs.put_numbers.Goals as goal

pub loop-n-preserved : goal.loop-n-preserved
unfolding all_bytes
loop-n-preserved c =
    let at = c.loop-n in
    going_on (rw (add-one at.n-index) (ap (all_bytes c.args.width) (drop-cons c.args.numbers.now at.n-index 0 c.loop-n-test.true))) at.invariant c.put_number.ensures

pub returns : goal.returns
unfolding all_bytes
returns c = going_end (ap (all_bytes c.args.width) (drop_of_length-le c.args.numbers.now c.loop-n-test.false)) c.loop-n.invariant
