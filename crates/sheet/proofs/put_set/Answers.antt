-- `sheet::put_set` meets its contract: its numbers and its identifiers, one after another.
use mathlib.Core.Path.{◌≡◌, sym, ap, ◌∙◌}
use lib.ListN.{length}
use Rattle.rules.specs.Collecting.{most_ids}
use Rattle.layout.specs.Sheet.{sheet_number, sheet_set}
use Rattle.sets.specs.Shown.{set_in, shown_as}
use Rattle.out.proofs.Pages.{writes_as, writes_then}
use Rattle.sheet.proofs.Writes.{flag_bit, pairs_many}
use borrow.Author.Rules.{rules}
use Rattle.sheet.proofs.put_set.Goals as goal

pub returns : goal.returns
unfolding sheet_set shown_as set_in
returns c =
    let kinds_long : length c.args.list.kinds ≡ most_ids = search rules in
    let numbers_long : length c.args.list.numbers ≡ most_ids = search rules in
    writes_then
    (writes_then
    (writes_then
    (writes_then c.put_number.ensures (writes_as (ap sheet_number (c.from.ensures ∙ flag_bit c.args.on)) c.put_number-2.ensures))
    (writes_as (ap sheet_number c.from-2.ensures) c.put_number-3.ensures))
    (writes_as (ap sheet_number (sym (pairs_many c.args.list kinds_long numbers_long c.requires))) c.put_number-4.ensures))
    c.put_pairs.ensures
