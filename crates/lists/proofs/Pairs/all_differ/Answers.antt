use native.Mathlib.Omega.{arith}
use mathlib.Core.Path.{sym, ap, ◌∙◌}
use Prim.Native.Nat.{◌<◌}
use lib.ListN.{length}
use borrow.Author.Rules.{rules}
use Rattle.rules.specs.Field.{pair}
use Rattle.rules.specs.Family.{member}
use Rattle.rules.specs.Collecting.{linkage}
use Rattle.lists.proofs.PairLaws.{length_paired, differ_next, differ_not, differ_end}
use Rattle.lists.proofs.Pairs.all_differ.Goals as goal

pub bounds-self-i : goal.bounds-self-i
bounds-self-i c = omega (arith, length_paired c.args.self.kinds.now c.args.self.numbers.now)

pub offset_bounds-self-i : goal.offset_bounds-self-i
offset_bounds-self-i c =
    let h : c.loop-i.i < length c.args.self.numbers.now = omega (arith, length_paired c.args.self.kinds.now c.args.self.numbers.now) in
    search rules

pub bounds-self-i-in-loop-i : goal.bounds-self-i-in-loop-i
bounds-self-i-in-loop-i c = omega (arith, length_paired c.args.self.kinds.now c.args.self.numbers.now)

pub returns-then-has : goal.returns-then-has
returns-then-has c =
    differ_not _ _ _ (omega arith) (sym (c.has.ensures ∙ ap (member linkage (pair _ _)) c.after.ensures.pairs) ∙ c.if-has.true) c.loop-i.invariant

pub loop-i-preserved : goal.loop-i-preserved
loop-i-preserved c =
    differ_next _ _ _ (omega arith) (sym (c.has.ensures ∙ ap (member linkage (pair _ _)) c.after.ensures.pairs) ∙ c.if-has.false) c.loop-i.invariant

pub returns : goal.returns
returns c = differ_end _ _ c.loop-i.i (omega arith) c.loop-i.invariant
