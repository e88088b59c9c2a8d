-- `sets::shut` meets its contract: the later values moved, and the last one at the end.
use Prim.Native.Nat.{◌+◌, ◌-◌}
use native.Mathlib.Omega.{arith}
use mathlib.Core.Path.{◌≡◌, ap₂, ◌∙◌}
use lib.ListN.{length, set}
use borrow.Author.Rules.{rules}
use Rattle.rules.specs.Collecting.{most_keys}
use Rattle.sets.proofs.Loops.{shut_by}
use Rattle.sets.proofs.shut.Goals as goal

pub returns : goal.returns
returns g c =
    let l : length c.args.values ≡ most_keys = search rules in
    let n = length c.args.values - (c.args.at + 1) in
    let e : 31 ≡ c.args.at + n = omega arith in
    ap₂ (λ ys i. set ys i c.args.last) c.copy_within.ensures.after e ∙ shut_by c.args.values c.args.at n c.args.last (omega arith)
