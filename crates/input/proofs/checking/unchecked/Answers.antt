-- `checking::unchecked` meets its contract: it is the reading of no bytes, of which none is refused.
use native.Mathlib.Omega.{arith}
use Rattle.input.proofs.CheckLaws.{checking_nothing}
use Rattle.input.proofs.checking.unchecked.Goals as goal

pub returns : goal.returns
returns c =
    let on = c.nothing.ensures in
    record { read = checking_nothing _ _ on.read on.within; even = λ _. omega (arith, on.within); within = on.within }
