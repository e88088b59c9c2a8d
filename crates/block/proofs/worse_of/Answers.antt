-- `block::worse_of` meets its contract: the order of faults is that of their numbers.
-- Assumes nothing.
use mathlib.Core.Path.{◌≡◌, refl, sym, ◌∙◌}
use lib.Dec.{ltb}
use Rattle.std.specs.Ordering.{partial_lt}
use Rattle.rules.specs.Outcomes.{number_of}
use Rattle.block.specs.declared.Fault.{Fault}
use Rattle.block.specs.contracts.FaultPartialOrd.TheImpl as FaultPartialOrd
use Rattle.block.specs.Faults.{fault_at, number_in, worse}
use Rattle.block.proofs.Verdicts.{worse_none, none_worse}
use Rattle.block.proofs.worse_of.Goals as goal

-- `b < a` of faults, by their numbers
abbrev Ordered : Fault → Fault → Type 0
Ordered a b = partial_lt FaultPartialOrd.partial_cmp-value.it b a ≡ ltb (number_in (fault_at b 0)) (number_in (fault_at a 0))

each : (a : Fault) → Ordered a Fault.NotABlock → Ordered a Fault.CheckFails → Ordered a Fault.WrongFig → Ordered a Fault.WrongField
    → Ordered a Fault.WrongValue → Ordered a Fault.EmptyStart → (b : Fault) → Ordered a b
each a p q r s t u Fault.NotABlock = p
each a p q r s t u Fault.CheckFails = q
each a p q r s t u Fault.WrongFig = r
each a p q r s t u Fault.WrongField = s
each a p q r s t u Fault.WrongValue = t
each a p q r s t u Fault.EmptyStart = u

ordered : (a b : Fault) → Ordered a b
unfolding number_in number_of
ordered Fault.NotABlock b = each Fault.NotABlock refl refl refl refl refl refl b
ordered Fault.CheckFails b = each Fault.CheckFails refl refl refl refl refl refl b
ordered Fault.WrongFig b = each Fault.WrongFig refl refl refl refl refl refl b
ordered Fault.WrongField b = each Fault.WrongField refl refl refl refl refl refl b
ordered Fault.WrongValue b = each Fault.WrongValue refl refl refl refl refl refl b
ordered Fault.EmptyStart b = each Fault.EmptyStart refl refl refl refl refl refl b

pub returns-in_default : goal.returns-in_default
returns-in_default c = rw c.in_default.is (sym (none_worse c.args.behind))

pub returns-in_default-behind : goal.returns-in_default-behind
returns-in_default-behind c = rw c.in_default-behind.is (sym c.in-Some.is ∙ sym (worse_none c.args.first))

pub returns-then-lt : goal.returns-then-lt
unfolding worse number_in
returns-then-lt c = rw (c.in-Some.is, c.in-Some-behind.is, sym (ordered c.in-Some.a.fault c.in-Some-behind.b.fault), sym c.lt.ensures, c.if-lt.true)

pub returns-else-lt : goal.returns-else-lt
unfolding worse number_in
returns-else-lt c = rw (c.in-Some.is, c.in-Some-behind.is, sym (ordered c.in-Some.a.fault c.in-Some-behind.b.fault), sym c.lt.ensures, c.if-lt.false)
