-- `sets::place_of` meets its contract: the place is that of the first key that is not smaller, or the end.
use Rattle.std.proofs.Common.{rules}
use Prim.Native.Nat.{◌<◌, ◌≤◌}
use native.Mathlib.Numerals.{add-one}
use native.Mathlib.Omega.{arith}
use mathlib.Core.Path.{◌≡◌, refl, sym, ap, ◌∙◌}
use lib.ListN.{take, length}
use lib.Seq.{length-take-le}
use borrow.Author.Tests.{tests, lt-ltb, le-ltb}
use Rattle.std.specs.Option.{unwrap_or}
use Rattle.std.proofs.lemmas.List.{take_min}
use Rattle.std.proofs.lemmas.Iterator.{YieldsList-from_slice, IsFirst-from_position, index_from_first}
use Rattle.rules.specs.Family as Family
use Rattle.sets.specs.Places.{place_in}
use Rattle.sets.proofs.place_of.Goals as goal

pub returns : goal.returns
unfolding Family.place_in
returns c =
    let keys = c.args.keys.now in
    let key = c.args.key in
    let end = c.min-end.result in
    let l : length (take end keys) ≡ end = length-take-le end keys (omega arith) in
    c.unwrap_or.ensures ∙ ap (unwrap_or c.position.result) (sym l)
    ∙ sym
    (index_from_first (λ xs. place_in xs key) (λ x. key ≤ x) (λ x. x < key) refl (λ x xs h. rw (le-ltb _ _ h) refl) (λ x xs h. rw (lt-ltb _ _ h) (sym (add-one _))) (take end keys) c.position.result
    (IsFirst-from_position c.position.new.self _ _ (λ x. key ≤ x) (λ x. x < key) c.position.ensures.ran (YieldsList-from_slice (take end keys) c.iter.ensures.rest) (λ x q k. search (rules, tests)) (λ x q k. search (rules, tests))))
    ∙ ap (λ xs. place_in xs key) (ap (λ n. take n keys) c.min-end.ensures ∙ take_min c.args.count keys)
