-- `rows::Column::gather` meets its contract: the lists passed are those of the rows.
use Rattle.reading.specs.Gathered.{gathered}
use Rattle.reading.proofs.GatheredLaws.{Gathering}
use Rattle.reading.proofs.rows.Column.gather.Given as goal

abbrev pub invariant-loop-p : goal.invariant-loop-p
invariant-loop-p l = Gathering l.initial.lists (gathered l.self.numbers l.self.kinds l.self.rows) l.lists l.p
