use mathlib.Core.Path.{sym, ap, ◌∙◌, subst}
use Rattle.std.specs.Prelude.{Option, Some}
use Rattle.block.specs.declared.Refused.{Refused}
use Rattle.block.specs.Faults.{worse, Pushes}
use Rattle.block.proofs.Storing.{with_spot}
use Rattle.block.proofs.Loops.{FieldsSoFar, fields_first, fields_next, fields_end, fields_wrong, field_room, field_goes_on}
use Rattle.block.proofs.push_fields.Goals as goal

pub loop-spots-init : goal.loop-spots-init
loop-spots-init c =
    fields_first c.args.fib.now c.args.start c.args.end c.args.before c.requires

pub returns-in-End : goal.returns-in-End
returns-in-End c =
    fields_end _ _ _ _ _ _ _ _ c.requires.block c.requires.within c.loop-spots.invariant
    (sym c.field_at.ensures ∙ c.in-End.is)

pub returns-in-Wrong : goal.returns-in-Wrong
returns-in-Wrong c =
    subst (Pushes _ _ _ _) (λ i. record { fault = sym (c.worse_of.ensures ∙ ap (λ (r : Refused). worse c.loop-spots.fault (Some r)) c.at-misfit.ensures) i; spots = c.loop-spots.spots })
    (fields_wrong _ _ _ _ _ _ _ _ c.requires.block c.requires.within c.loop-spots.invariant
    (sym c.field_at.ensures ∙ c.in-Wrong.is))

pub bounds-spots-n : goal.bounds-spots-n
bounds-spots-n c =
    field_room _ _ _ _ _ _ _ _ c.requires.block c.requires.within c.loop-spots.invariant _ _ (sym c.field_at.ensures ∙ c.in-Found.is)

pub loop-spots-smaller : goal.loop-spots-smaller
loop-spots-smaller c =
    field_goes_on _ _ _ _ _ _ _ _ c.requires.block c.requires.within c.loop-spots.invariant _ _ (sym c.field_at.ensures ∙ c.in-Found.is)

pub loop-spots-preserved : goal.loop-spots-preserved
loop-spots-preserved c =
    let x = c.args in
    let fault = c.worse_of-fault.ensures ∙ ap (worse c.loop-spots.fault) c.fault_in.ensures in
    subst
    (λ (k : Option Refused). FieldsSoFar x.fib.now x.start x.end x.before.fault x.before.spots k
    (with_spot c.loop-spots.spots (record { start = x.start; end = x.end; place = c.loop-spots.at })) c.in-Found.next)
    (sym fault)
    (fields_next _ _ _ _ _ _ _ _ c.requires.block c.requires.within c.loop-spots.invariant _ _
    (sym c.field_at.ensures ∙ c.in-Found.is))
