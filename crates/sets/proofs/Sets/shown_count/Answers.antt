-- `sets::Sets::shown_count` meets its contract: what is counted are the lists that are not empty.
use Rattle.std.proofs.Common.{rules}
use Prim.Native.Nat.{min}
use native.Mathlib.Omega.{arith}
use mathlib.Core.Path.{◌≡◌, sym, ap, ◌∙◌}
use mathlib.Core.Bool.{not}
use lib.ListN.{length, take}
use lib.Dec.{eqb}
use borrow.Author.Tests.{tests}
use Rattle.std.specs.List.{filter}
use Rattle.std.proofs.lemmas.List.{take_min}
use Rattle.std.proofs.lemmas.Iterator.{YieldsList-from_slice, YieldsList-from_take}
use Rattle.std.proofs.lemmas.Iterator.Consumers.{YieldsList-from_filter, YieldsList-at, count_from_yields_List}
use Rattle.rules.specs.Collecting.{most_keys}
use Rattle.rules.proofs.Basics.{length_of_map}
use Rattle.sets.specs.Shown.{sets_in}
use Rattle.sets.proofs.ShownLaws.{sets_counted}
use Rattle.sets.proofs.Sets.shown_count.Goals as goal

pub returns : goal.returns
unfolding sets_in
returns c =
    let t = c.args.self in
    let l : length t.shown ≡ most_keys = search (length_of_map, rules) in
    count_from_yields_List c.filter.result _ c.count.ensures.ran
    (YieldsList-from_filter _ (λ l. not (eqb l.len 0)) (YieldsList-at c.filter.ensures.source (YieldsList-from_take t.count (YieldsList-from_slice t.shown cc) cc)) c.filter.ensures.closure (λ x r q k. search (rules, tests)))
    ∙ ap (λ ls. length (filter (λ l. not (eqb l.len 0)) ls)) (sym (take_min t.count t.shown) ∙ ap (λ n. take (min t.count n) t.shown) l)
    ∙ sets_counted t (min t.count most_keys) 0 (omega arith)
