-- `air::run_of` meets its contract: the run ends before the first of another kind.
use Rattle.std.proofs.Common.{rules}
use Prim.Native.Nat.{ℕ}
use native.Mathlib.Omega.{arith}
use mathlib.Core.Path.{◌≡◌, refl, sym, ◌∙◌}
use lib.ListN.{length}
use lib.Dec.{eqb}
use borrow.Author.Tests.{tests, eq-eqb, ne_eqb}
use Rattle.std.specs.Option.{unwrap_or}
use Rattle.std.proofs.lemmas.Iterator.{YieldsList-from_slice, IsFirst-from_position, index_from_first}
use Rattle.std.proofs.lemmas.List.Sums.{prefix_len-le-length}
use Rattle.air.specs.Parts.{run}
use Rattle.air.proofs.run_of.Goals as goal

pub returns : goal.returns
returns c =
    let kinds = c.args.kinds.now in
    let kind = c.args.kind in
    let found : run kind kinds ≡ unwrap_or c.position.result (length kinds) =
    index_from_first (run kind) (λ x. x ≡ kind → ⊥) (λ x. x ≡ kind) refl (λ x xs h. rw (ne_eqb x kind h)) (λ x xs h. rw (eq-eqb x kind h) (omega arith)) kinds c.position.result
    (IsFirst-from_position c.position.new.self _ _ (λ x. x ≡ kind → ⊥) (λ x. x ≡ kind) c.position.ensures.ran (YieldsList-from_slice kinds c.iter.ensures.rest) (λ x q k. search (rules, tests)) (λ x q k. search (rules, tests))) in
    let run' : c.unwrap_or.result ≡ run kind kinds = c.unwrap_or.ensures ∙ sym found in
    (run', omega (arith, prefix_len-le-length (λ (x : ℕ). eqb x kind) kinds))
