-- `sets::lists_meet` meets its contract: the test is that of each key and its list.
use Rattle.std.proofs.Common.{rules}
use borrow.Author.Tests.{tests}
use Rattle.std.proofs.lemmas.Iterator.{YieldsList-from_slice, YieldsList-from_zip, cases_from_all}
use Rattle.lists.specs.Stored.{Holds}
use Rattle.sets.specs.Stored.{EachHolds}
use Rattle.sets.proofs.Loops.{tested_pairs}
use Rattle.sets.proofs.lists_meet.Goals as goal

pub returns : goal.returns
unfolding EachHolds
returns c =
    tested_pairs Holds _ _ (search rules) (search rules)
    (cases_from_all c.all.new.self _ _ (λ p. Holds p.0 p.1) (λ p. Holds p.0 p.1 → ⊥) c.all.ensures.ran
    (YieldsList-from_zip (YieldsList-from_slice c.args.keys.now cc) (YieldsList-from_slice c.args.lists.now cc))
    (λ x q k. search (rules, tests)) (λ x q k. search (rules, tests)))
