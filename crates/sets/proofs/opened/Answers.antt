-- `sets::opened` meets its contract: the later values moved, and the new one at its place.
use Prim.Native.Nat.{◌-◌}
use native.Mathlib.Omega.{arith}
use mathlib.Core.Path.{◌≡◌, ap, ◌∙◌}
use lib.ListN.{length, set}
use borrow.Author.Rules.{rules}
use Rattle.rules.specs.Collecting.{most_keys}
use Rattle.sets.proofs.Loops.{opened_by}
use Rattle.sets.proofs.opened.Goals as goal

pub returns : goal.returns
returns g c =
    let l : length c.args.values ≡ most_keys = search rules in
    ap (λ ys. set ys c.args.at c.args.value) c.copy_within.ensures.after ∙ opened_by c.args.values c.args.at (31 - c.args.at) c.args.value (omega arith)
