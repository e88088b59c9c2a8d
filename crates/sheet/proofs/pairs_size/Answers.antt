use Prim.Native.Nat.{◌+◌, ◌≤◌}
use native.Mathlib.Omega.{arith}
use mathlib.Core.Path.{◌≡◌, ap}
use lib.ListN.{length, drop}
use Rattle.rules.specs.Collecting.{most_ids}
use Rattle.layout.specs.Sheet.{sheet_number, sheet_pairs}
use Rattle.sheet.proofs.Writes.{pairs_of, pairs_size, pairs_end, size_here}
use borrow.Author.Rules.{rules}
use Rattle.sheet.proofs.pairs_size.Goals as goal

-- one identifier more is counted
turn : (c : goal.After-number_size-in-loop-i)
    → (c.loop-i.size + (c.number_size.result + c.number_size-in-loop-i.result) + length (sheet_pairs (drop (c.loop-i.i + 1) (pairs_of c.args.list)))
    ≡ length (sheet_pairs (pairs_of c.args.list)))
    × (length (sheet_pairs (pairs_of c.args.list)) ≤ 1280)
turn c =
    let kinds_long : length c.args.list.kinds ≡ most_ids = search rules in
    let numbers_long : length c.args.list.numbers ≡ most_ids = search rules in
    let h = size_here c.args.list kinds_long numbers_long c.requires c.loop-i.i c.loop-i-test.true in
    (omega (arith, c.loop-i.invariant, c.number_size.ensures, c.number_size-in-loop-i.ensures, ap (λ n. length (sheet_number n)) c.from.ensures), pairs_size c.args.list kinds_long numbers_long c.requires)

pub overflow_add-size : goal.overflow_add-size
overflow_add-size c = omega (arith, turn c)

pub overflow_add-size-in-loop-i : goal.overflow_add-size-in-loop-i
overflow_add-size-in-loop-i c = omega (arith, turn c)

pub loop-i-preserved : goal.loop-i-preserved
loop-i-preserved c = (turn c).0

pub returns : goal.returns
returns c =
    let kinds_long : length c.args.list.kinds ≡ most_ids = search rules in
    let numbers_long : length c.args.list.numbers ≡ most_ids = search rules in
    omega (arith, c.loop-i.invariant, ap length (pairs_end c.args.list kinds_long numbers_long c.requires c.loop-i.i c.loop-i-test.false))
