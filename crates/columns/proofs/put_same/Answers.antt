use Prim.Native.Nat.{ℕ, suc, ◌+◌, ◌-◌}
use native.Mathlib.Omega.{arith}
use mathlib.Core.Path.{◌≡◌, ap}
use lib.ListN.{replicate}
use Rattle.out.proofs.Pages.{going_start, going_on, going_as, going_end}
use Rattle.columns.proofs.put_same.Goals as goal

pub loop-init : goal.loop-init
loop-init c =
    let all : c.args.n ≡ c.args.n - 0 = omega arith in
    going_as (ap (λ (k : ℕ). replicate k c.args.b) all) (going_start _ _)

pub loop-preserved : goal.loop-preserved
loop-preserved c =
    let at = c.loop in
    let more : c.args.n - at.counter ≡ suc (c.args.n - (at.counter + 1)) = omega arith in
    going_on (ap (λ (k : ℕ). replicate k c.args.b) more) at.invariant c.put.ensures

pub returns : goal.returns
returns c =
    let none : c.args.n - c.loop.counter ≡ 0 = omega arith in
    going_end (ap (λ (k : ℕ). replicate k c.args.b) none) c.loop.invariant
