-- `sets::numbers_meet` meets its contract: the test is that of each number and the list at its place.
use Rattle.std.proofs.Common.{rules}
use mathlib.Core.Path.{◌≡◌}
use borrow.Author.Tests.{tests}
use Rattle.std.proofs.lemmas.Iterator.{YieldsList-from_slice, YieldsList-from_zip, cases_from_all}
use Rattle.sets.specs.Stored.{NumbersHold}
use Rattle.sets.proofs.Loops.{tested_pairs}
use Rattle.sets.proofs.numbers_meet.Goals as goal

pub returns : goal.returns
unfolding NumbersHold
returns c =
    tested_pairs (λ n l. l.len ≡ 0 → n ≡ 0) _ _ (search rules) (search rules)
    (cases_from_all c.all.new.self _ _ (λ p. p.1.len ≡ 0 → p.0 ≡ 0) (λ p. (p.1.len ≡ 0 → p.0 ≡ 0) → ⊥) c.all.ensures.ran
    (YieldsList-from_zip (YieldsList-from_slice c.args.numbers.now cc) (YieldsList-from_slice c.args.lists.now cc))
    (λ x q k. search (rules, tests)) (λ x q k. search (rules, tests)))
