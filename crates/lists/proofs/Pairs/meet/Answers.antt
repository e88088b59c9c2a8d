-- `lists::Pairs::meet` meets its contract: each pair of the two is tested.
use Prim.Native.Nat.{ℕ, ◌^◌}
use mathlib.Core.Path.{◌∙◌}
use mathlib.Core.Bool.{◌&&◌}
use lib.Dec.{ltb}
use Rattle.std.proofs.Common.{rules, tests}
use Rattle.std.proofs.lemmas.Iterator.{YieldsList-from_slice, YieldsList-from_zip}
use Rattle.std.proofs.lemmas.Iterator.Search.{all_from_yields_List}
use Rattle.rules.specs.Collecting.{key_width, kind_named}
use Rattle.lists.proofs.PairLaws.{meet_zip}
use Rattle.lists.proofs.Pairs.meet.Goals as goal

pub returns : goal.returns
returns c =
    let ks = c.args.self.kinds.now in
    let ns = c.args.self.numbers.now in
    all_from_yields_List (λ (p : ℕ × ℕ). ltb p.1 (256 ^ key_width c.args.key) && kind_named c.args.named p.0) c.all.new.self _ c.all.result c.all.ensures.ran
    (YieldsList-from_zip (YieldsList-from_slice ks cc) (YieldsList-from_slice ns cc)) (λ x b q k. search (rules, tests))
    ∙ meet_zip (key_width c.args.key) c.args.named ks ns
