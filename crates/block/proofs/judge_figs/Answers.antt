use Prim.Native.Nat.{◌≤◌, ◌<◌}
use native.Mathlib.Omega.{arith}
use mathlib.Core.Path.{refl, sym, ap, ◌∙◌}
use Rattle.std.specs.Prelude.{Err}
use Rattle.block.proofs.Loops.{figs_begin, figs_end, figs_break, fig_inside, fig_goes_on, can_push, figs_next, figs_skip}
use Rattle.block.proofs.judge_figs.Goals as goal
use Rattle.block.proofs.judge_figs.Goals.{In-Fig}

pub loop-kind-init : goal.loop-kind-init
loop-kind-init c = figs_begin _ _ _ refl c.no_spots.ensures c.first-cursor.ensures

pub returns-in-End : goal.returns-in-End
returns-in-End c =
    figs_end _ _ _ c.requires c.loop-kind.invariant (sym c.step.ensures ∙ c.in-End.is) _ c.conclude.ensures

pub returns-in-Wrong : goal.returns-in-Wrong
returns-in-Wrong c =
    figs_break _ _ _ c.requires c.loop-kind.invariant (sym c.step.ensures ∙ c.in-Wrong.is) _ (ap Err c.at.ensures)

-- where the body of the FIG lies
inside : (c : In-Fig)
    → (c.in-Fig.start < c.in-Fig.end) × (c.in-Fig.end ≤ 30)
inside c =
    fig_inside _ _ _ c.requires c.loop-kind.invariant _ _ _ _ (sym c.step.ensures ∙ c.in-Fig.is)

pub slice_bounds-is_linking-count : goal.slice_bounds-is_linking-count
slice_bounds-is_linking-count c = omega (arith, inside c)

pub slice_bounds-is_linking-start : goal.slice_bounds-is_linking-start
slice_bounds-is_linking-start c = omega (arith, inside c)

pub slice_bounds-is_linking-end : goal.slice_bounds-is_linking-end
slice_bounds-is_linking-end c =
    omega (arith, inside c, c.requires)

pub push_fields-found-requires : goal.push_fields-found-requires
push_fields-found-requires c =
    can_push _ _ _ c.requires c.loop-kind.invariant _ _ _ _ (sym c.step.ensures ∙ c.in-Fig.is)

pub loop-kind-smaller-then-is_linking : goal.loop-kind-smaller-then-is_linking
loop-kind-smaller-then-is_linking c =
    fig_goes_on _ _ _ c.requires c.loop-kind.invariant _ _ _ _ (sym c.step.ensures ∙ c.in-Fig.is)

pub loop-kind-preserved-then-is_linking : goal.loop-kind-preserved-then-is_linking
loop-kind-preserved-then-is_linking c =
    figs_next _ _ _ c.requires c.loop-kind.invariant _ _ _ _ (sym c.step.ensures ∙ c.in-Fig.is)
    (sym c.is_linking.ensures ∙ c.if-is_linking.true) _ c.push_fields-found.ensures

pub loop-kind-smaller : goal.loop-kind-smaller
loop-kind-smaller c =
    fig_goes_on _ _ _ c.requires c.loop-kind.invariant _ _ _ _ (sym c.step.ensures ∙ c.in-Fig.is)

pub loop-kind-preserved : goal.loop-kind-preserved
loop-kind-preserved c =
    figs_skip _ _ _ c.requires c.loop-kind.invariant _ _ _ _ (sym c.step.ensures ∙ c.in-Fig.is)
    (sym c.is_linking.ensures ∙ c.if-is_linking.false)
