use mathlib.Core.Path.{◌≡◌, refl, ap}
use lib.ListN.{length}
use Rattle.rules.specs.Collecting.{most_ids}
use Rattle.layout.specs.Sheet.{sheet_number}
use Rattle.out.proofs.Pages.{writes_as, going_start, going_on, going_end}
use Rattle.sheet.proofs.Writes.{pairs_here, pairs_end}
use borrow.Author.Rules.{rules}
use Rattle.sheet.proofs.put_pairs.Goals as goal

pub loop-i-init : goal.loop-i-init
loop-i-init c = going_start _ _

pub loop-i-preserved : goal.loop-i-preserved
loop-i-preserved c =
    let kinds_long : length c.args.list.kinds ≡ most_ids = search rules in
    let numbers_long : length c.args.list.numbers ≡ most_ids = search rules in
    going_on refl
    (going_on (pairs_here c.args.list kinds_long numbers_long c.requires _ c.loop-i-test.true) c.loop-i.invariant (writes_as (ap sheet_number c.from.ensures) c.put_number.ensures))
    c.put_number-in-loop-i.ensures

pub returns : goal.returns
returns c =
    let kinds_long : length c.args.list.kinds ≡ most_ids = search rules in
    let numbers_long : length c.args.list.numbers ≡ most_ids = search rules in
    going_end (pairs_end c.args.list kinds_long numbers_long c.requires _ c.loop-i-test.false) c.loop-i.invariant
