-- `sheet::set_size` meets its contract: its numbers and its identifiers, one after another.
use native.Mathlib.Omega.{arith}
use mathlib.Core.Path.{◌≡◌, ap, ◌∙◌}
use lib.ListN.{length}
use Rattle.rules.specs.Collecting.{most_ids}
use Rattle.layout.specs.Sheet.{sheet_number}
use Rattle.sheet.proofs.Groups.{number_short}
use Rattle.sheet.proofs.Writes.{flag_bit, pairs_size, size_set}
use borrow.Author.Rules.{rules}
use Rattle.sheet.proofs.set_size.Goals as goal

-- a number takes at most five bytes
pub overflow_add-result : goal.overflow_add-result
overflow_add-result c = omega (arith, number_short)

pub overflow_add-result-2 : goal.overflow_add-result-2
overflow_add-result-2 c = omega (arith, number_short)

pub overflow_add-result-3 : goal.overflow_add-result-3
overflow_add-result-3 c = omega (arith, number_short)

pub overflow_add-result-4 : goal.overflow_add-result-4
overflow_add-result-4 c =
    let kinds_long : length c.args.list.kinds ≡ most_ids = search rules in
    let numbers_long : length c.args.list.numbers ≡ most_ids = search rules in
    omega (arith, number_short, c.pairs_size.ensures, pairs_size c.args.list kinds_long numbers_long c.requires)

pub returns : goal.returns
returns c =
    let kinds_long : length c.args.list.kinds ≡ most_ids = search rules in
    let numbers_long : length c.args.list.numbers ≡ most_ids = search rules in
    omega (
      arith,
      size_set c.args.list kinds_long numbers_long c.requires c.args.key c.args.on,
      c.pairs_size.ensures,
      c.number_size.ensures,
      c.number_size-count.ensures,
      c.number_size-named.ensures,
      c.number_size-state.ensures,
      ap (λ n. length (sheet_number n)) (c.from.ensures ∙ flag_bit c.args.on),
      ap (λ n. length (sheet_number n)) c.from-2.ensures,
    )
