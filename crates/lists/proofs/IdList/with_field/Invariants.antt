-- `lists::IdList::with_field` meets its contract: what is left to add to the list so far makes the whole.
use Prim.Native.Nat.{◌-◌}
use mathlib.Core.Path.{◌≡◌}
use Rattle.lists.specs.Grown.{grown, field_pairs}
use Rattle.lists.proofs.IdList.with_field.Given as goal

abbrev pub invariant-loop-i : goal.invariant-loop-i
invariant-loop-i l = grown l.next (field_pairs l.body l.f l.i (l.f.count - l.i)) ≡ grown l.initial.next (field_pairs l.body l.f 0 l.f.count)
