-- `rows::append` meets its contract: what is left to add to the row so far makes the whole.
use Prim.Native.Nat.{◌-◌, ◌≤◌}
use mathlib.Core.Path.{◌≡◌}
use lib.ListN.{length}
use Rattle.rules.specs.Collecting.{most_ids}
use Rattle.lists.specs.Grown.{grown, field_pairs}
use Rattle.reading.specs.Gathered.{row_list}
use Rattle.reading.proofs.RowLaws.{row_of}
use Rattle.reading.proofs.rows.append.Given as goal

abbrev pub invariant-loop-i : goal.invariant-loop-i
invariant-loop-i l = record {
  fits : l.len ≤ most_ids;
  numbers : length l.numbers ≡ most_ids;
  kinds : length l.kinds ≡ most_ids;
  rest : grown (row_list l.numbers l.kinds (row_of l.len l.named)) (field_pairs l.body l.f l.i (l.f.count - l.i)) ≡ grown (row_list l.initial.numbers l.initial.kinds (row_of l.initial.len l.named)) (field_pairs l.body l.f 0 l.f.count);
}
