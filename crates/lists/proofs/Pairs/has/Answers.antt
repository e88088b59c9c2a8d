-- `lists::Pairs::has` meets its contract: some pair of the two is the one that is looked for.
use Prim.Native.Nat.{ℕ}
use mathlib.Core.Path.{◌∙◌}
use mathlib.Core.Bool.{◌&&◌}
use lib.Dec.{eqb}
use Rattle.std.proofs.Common.{rules, tests}
use Rattle.std.proofs.lemmas.Iterator.{YieldsList-from_slice, YieldsList-from_zip}
use Rattle.std.proofs.lemmas.Iterator.Search.{any_from_yields_List}
use Rattle.lists.proofs.PairLaws.{member_zip}
use Rattle.lists.proofs.Pairs.has.Goals as goal

pub returns : goal.returns
returns c =
    let ks = c.args.self.kinds.now in
    let ns = c.args.self.numbers.now in
    any_from_yields_List (λ (p : ℕ × ℕ). eqb p.0 c.args.kind && eqb p.1 c.args.number) c.any.new.self _ c.any.result c.any.ensures.ran
    (YieldsList-from_zip (YieldsList-from_slice ks cc) (YieldsList-from_slice ns cc)) (λ x b q k. search (rules, tests))
    ∙ member_zip c.args.kind c.args.number ks ns
