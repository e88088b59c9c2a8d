use Prim.Native.Nat.{ℕ, suc, ◌-◌}
use native.Mathlib.Omega.{arith}
use mathlib.Core.Path.{◌≡◌, sym, ap, ◌∙◌}
use mathlib.Core.List.{◌∷◌}
use Rattle.out.specs.Text.{hex_text}
use Rattle.out.proofs.Pages.{going_on, going_end}
use Rattle.out.proofs.Page.put_hex.Goals as goal

pub loop-place-preserved : goal.loop-place-preserved
unfolding hex_text
loop-place-preserved c =
    let left = c.loop-place.place - 1 in
    let n = c.args.n in
    let more : c.loop-place.place ≡ suc left = omega arith in
    going_on
    (ap (λ (k : ℕ). hex_text k n) more ∙ ap (λ (d : ℕ). d ∷ hex_text left n) (sym c.digit_at.ensures))
    c.loop-place.invariant
    c.put.ensures

pub returns : goal.returns
unfolding hex_text
returns c =
    let none : c.loop-place.place ≡ 0 = omega arith in
    going_end (ap (λ (k : ℕ). hex_text k c.args.n) none) c.loop-place.invariant
