-- `lists::Pairs::has_kind` meets its contract: the kinds that have a number are looked through.
use Prim.Native.Nat.{ℕ}
use native.Mathlib.Omega.{arith}
use mathlib.Core.Path.{ap, ◌∙◌}
use lib.ListN.{take, length-take}
use lib.Dec.{eqb}
use Rattle.std.specs.List.{list_any}
use Rattle.lists.proofs.PairLaws.{length_paired}
use Rattle.lists.proofs.KindLaws.{kind_first}
use Rattle.lists.proofs.Pairs.has_kind.Goals as goal

pub slice_bounds-contains-end : goal.slice_bounds-contains-end
slice_bounds-contains-end c =
    omega (arith, length-take c.len.result c.args.self.kinds.now, length_paired c.args.self.kinds.now c.args.self.numbers.now)

pub returns : goal.returns
returns c =
    c.contains.ensures.value
    ∙ ap (λ (n : ℕ). list_any (λ (x : ℕ). eqb x c.args.kind) (take n c.args.self.kinds.now)) c.len.ensures
    ∙ kind_first c.args.kind c.args.self.kinds.now c.args.self.numbers.now
