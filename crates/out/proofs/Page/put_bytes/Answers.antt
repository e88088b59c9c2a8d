use native.Mathlib.Numerals.{add-one}
use lib.ListN.{drop_of_length-le}
use lib.Seq.{drop-cons}
use Rattle.out.proofs.Pages.{going_on, going_end}
use Rattle.out.proofs.Page.put_bytes.Goals as goal

pub loop-byte-preserved : goal.loop-byte-preserved
loop-byte-preserved c =
    let at = c.loop-byte in
    going_on (rw (add-one at.byte-index) (drop-cons c.args.bytes.now at.byte-index 0 c.loop-byte-test.true)) at.invariant c.put.ensures

pub returns : goal.returns
returns c = going_end (drop_of_length-le c.args.bytes.now c.loop-byte-test.false) c.loop-byte.invariant
