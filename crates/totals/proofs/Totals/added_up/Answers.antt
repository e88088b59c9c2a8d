use Prim.Native.Nat.{ℕ, suc, ◌+◌, ◌-◌, min}
use native.Mathlib.Omega.{arith}
use mathlib.Core.Path.{◌≡◌, sym, ap, ap₂, ◌∙◌}
use mathlib.Core.Bool.{false}
use lib.ListN.{get_or}
use Rattle.rules.specs.Collecting.{most_keys}
use Rattle.sets.specs.Stored.{past}
use Rattle.totals.specs.declared.Totals.{Totals}
use Rattle.totals.specs.Kept.{with_set, totals_from, totals_in}
use Rattle.totals.proofs.Totals.added_up.Goals as goal

pub loop-k-init : goal.loop-k-init
unfolding totals_from
loop-k-init c =
    let n = c.min-k.result in
    let z : n - n ≡ 0 = omega arith in
    c.none-totals.ensures ∙ sym (ap (totals_from c.args.sets n) z)

pub loop-k-preserved : goal.loop-k-preserved
unfolding totals_from
loop-k-preserved c =
    let t = c.args.sets in
    let n = c.min-k.result in
    let k = c.loop-k.k in
    let next : k - 1 + 1 ≡ k = omega arith in
    let e : n - (k - 1) ≡ suc (n - k) = omega arith in
    c.with-totals.ensures
    ∙ ap (λ (u : Totals). with_set u (get_or t.shown (k - 1) past).len (get_or t.on (k - 1) false))
    (c.loop-k.invariant ∙ sym (ap (λ (i : ℕ). totals_from t i (n - k)) next))
    ∙ sym (ap (totals_from t (k - 1)) e)

pub returns : goal.returns
unfolding totals_in
returns c =
    let z : c.loop-k.k ≡ 0 = omega arith in
    let n : c.min-k.result - c.loop-k.k ≡ min c.args.sets.count most_keys = omega arith in
    c.loop-k.invariant ∙ ap₂ (totals_from c.args.sets) z n
