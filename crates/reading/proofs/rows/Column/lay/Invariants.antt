-- `rows::Column::lay` meets its contract: the rows passed are the lists, packed.
use mathlib.Core.Path.{◌≡◌}
use mathlib.Core.List.{map}
use lib.ListN.{length, take}
use Rattle.rules.specs.Collecting.{most_keys}
use Rattle.reading.specs.Gathered.{gathered, packed, Whole}
use Rattle.reading.proofs.rows.Column.lay.Given as goal

abbrev pub invariant-loop-p : goal.invariant-loop-p
invariant-loop-p l = record {
  whole : Whole l.self.numbers l.self.kinds l.self.rows;
  long : length l.lists ≡ most_keys;
  same : take l.p (gathered l.self.numbers l.self.kinds l.self.rows) ≡ take l.p (map packed l.lists);
}
