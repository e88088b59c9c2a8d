-- `air::Pieces::next` meets its contract: the next piece is taken from the front of what is left.
use Prim.Native.Nat.{◌+◌}
use native.Mathlib.Omega.{arith}
use mathlib.Core.Path.{sym, ap}
use lib.ListN.{length, length-drop}
use lib.Seq.{length-take-le}
use borrow.Author.Rules.{rules}
use Rattle.air.specs.Parts.{Alike}
use Rattle.air.proofs.Cuts.{none_left, next_left, piece_some, piece_within}
use Rattle.air.proofs.PiecesIterator.next.Goals as goal

pub returns-then-is_empty-clause-steps : goal.returns-then-is_empty-clause-steps
returns-then-is_empty-clause-steps c =
    let p = c.args.self.now in
    let none = none_left p.key p.begun p.left.kinds.now p.left.numbers.now (search rules) in
    (none, none)

pub slice_bounds-run_of-count : goal.slice_bounds-run_of-count
slice_bounds-run_of-count c = piece_some _ _ _ c.is_empty.ensures c.if-is_empty.false c.min-end.ensures c.most_of.ensures.1

pub slice_bounds-run_of-start : goal.slice_bounds-run_of-start
slice_bounds-run_of-start c = piece_some _ _ _ c.is_empty.ensures c.if-is_empty.false c.min-end.ensures c.most_of.ensures.1

pub overflow_add-count : goal.overflow_add-count
overflow_add-count c =
    let some' = piece_some _ _ _ c.is_empty.ensures c.if-is_empty.false c.min-end.ensures c.most_of.ensures.1 in
    omega (arith, piece_within c.args.self.now.left.kinds.now _ _ some' c.run_of-count.ensures.1)

pub slice_bounds-piece-end : goal.slice_bounds-piece-end
slice_bounds-piece-end c =
    let p = c.args.self.now in
    let some' = piece_some _ _ _ c.is_empty.ensures c.if-is_empty.false c.min-end.ensures c.most_of.ensures.1 in
    sym (length-take-le _ p.left.numbers.now (omega (arith, piece_within p.left.kinds.now _ _ some' c.run_of-count.ensures.1, c.requires)))

pub returns-clause-steps : goal.returns-clause-steps
returns-clause-steps c =
    let p = c.args.self.now in
    next_left p.key p.begun p.left.kinds.now p.left.numbers.now c.qualifier_of-qualifier.result c.min-end.result c.run_of-count.result (1 + c.run_of-count.result) c.requires
    (omega (arith, piece_some _ _ _ c.is_empty.ensures c.if-is_empty.false c.min-end.ensures c.most_of.ensures.1)) c.qualifier_of-qualifier.ensures (omega (arith, c.min-end.ensures, c.most_of.ensures.0))
    c.run_of-count.ensures.0 (omega arith) c.after-self.ensures.pairs

pub returns-clause-goes : goal.returns-clause-goes
returns-clause-goes c =
    let p = c.args.self.now in
    let n = 1 + c.run_of-count.result in
    let alike : Alike c.after-self.result =
    omega (arith, c.requires, ap length c.after-self.ensures.kinds, ap length c.after-self.ensures.numbers, length-drop n p.left.kinds.now, length-drop n p.left.numbers.now) in
    record {
      on = λ f. (alike, tt, omega (arith, ap length (returns-clause-steps c)));
      keeps = alike;
      rests = λ f. tt;
    }
