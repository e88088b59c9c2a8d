-- `lists::Pairs::after` meets its contract: both are cut at one place.
use Prim.Native.Nat.{ℕ, ◌-◌}
use native.Mathlib.Omega.{arith}
use mathlib.Core.List.{List}
use mathlib.Core.Path.{◌≡◌, ap, ap₂, ◌∙◌}
use lib.ListN.{length, take, drop, length-drop}
use Rattle.std.proofs.Common.{min}
use Rattle.std.proofs.lemmas.List.{take_all, drop_min}
use Rattle.lists.specs.Stored.{paired}
use Rattle.lists.proofs.PairLaws.{paired_drop}
use Rattle.lists.proofs.Pairs.after.Goals as goal

-- what stands from a place on, or nothing from a place past the end
rest : (xs : List ℕ) (from m : ℕ) → m ≡ min from (length xs) → take (length xs - m) (drop m xs) ≡ drop from xs
rest xs from m e =
    take_all (length xs - m) (drop m xs) (omega (arith, length-drop m xs)) ∙ ap (λ (n : ℕ). drop n xs) e ∙ drop_min from xs

pub returns-clause-pairs : goal.returns-clause-pairs
returns-clause-pairs c =
    let ks = c.args.self.kinds.now in
    let ns = c.args.self.numbers.now in
    ap₂ paired (rest ks c.args.from c.min-2.result c.min-2.ensures) (rest ns c.args.from c.min.result c.min.ensures) ∙ paired_drop c.args.from ks ns
