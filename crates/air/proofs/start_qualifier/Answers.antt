-- `air::start_qualifier` meets its contract, by the test that led to each return.
use mathlib.Core.Path.{sym, ◌∙◌}
use Prim.Native.Nat.{◌≤◌}
use lib.ListN.{length}
use borrow.Author.Rules.{rules}
use borrow.Author.Tests.{ltb-true}
use Rattle.air.proofs.Cuts.{qualifier_alone, qualifier_next, qualifier_own}
use Rattle.air.proofs.start_qualifier.Goals as goal

pub returns-in_default : goal.returns-in_default
returns-in_default c =
    let alone : length c.args.kinds.now ≤ 1 = search rules in
    c.first_of.ensures ∙ qualifier_alone c.args.key c.args.kinds.now c.requires alone

pub returns-then-first_of-first : goal.returns-then-first_of-first
returns-then-first_of-first c =
    let next = c.in-Some.ensures.lookup in
    qualifier_next c.args.key c.args.kinds.now c.first_of-2.result _ (ltb-true _ _ (sym next.0)) c.first_of-2.ensures next.1 c.if-first_of-first.true

pub returns-else-first_of-first : goal.returns-else-first_of-first
returns-else-first_of-first c =
    let next = c.in-Some.ensures.lookup in
    qualifier_own c.args.key c.args.kinds.now c.first_of-2.result _ (ltb-true _ _ (sym next.0)) c.first_of-2.ensures next.1 c.if-first_of-first.false
