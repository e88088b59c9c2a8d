-- `sets::none_from` meets its contract: the test is that of each list from the place on.
use Rattle.std.proofs.Common.{rules}
use native.Mathlib.Omega.{arith}
use mathlib.Core.Path.{◌≡◌, ◌∙◌}
use lib.ListN.{length, drop, length-drop}
use lib.Seq.{take_all}
use Rattle.rules.specs.Collecting.{most_keys}
use borrow.Author.Tests.{tests}
use Rattle.std.proofs.lemmas.Iterator.{YieldsList-from_slice, cases_from_all}
use Rattle.sets.specs.Stored.{NoneFrom}
use Rattle.sets.proofs.Loops.{tested_from}
use Rattle.sets.proofs.none_from.Goals as goal

pub returns : goal.returns
unfolding NoneFrom
returns c =
    let l : length c.args.lists.now ≡ most_keys = search rules in
    tested_from (λ l. l.len ≡ 0) _ _ l c.requires
    (cases_from_all c.all.new.self _ _ (λ l. l.len ≡ 0) (λ l. l.len ≡ 0 → ⊥) c.all.ensures.ran
    (YieldsList-from_slice (drop c.args.from c.args.lists.now) (c.iter.ensures.rest ∙ take_all _ (drop c.args.from c.args.lists.now) (omega (arith, length-drop c.args.from c.args.lists.now, l))))
    (λ x q k. search (rules, tests)) (λ x q k. search (rules, tests)))
