-- What a table shows, read off its arrays, whatever they hold. That these are the sets that the content of a stored table shows is
-- proved in proofs/ShownLaws.antt.
use Rattle.std.specs.Prelude.{ℕ, zero, suc, ◌+◌, min, Bool, false, cond, List, [], ◌∷◌, get_or, eqb}
use Rattle.rules.specs.Collecting.{IdSet, Shown, Confirmed, most_keys}
use Rattle.lists.specs.declared.IdList.{IdList}
use Rattle.lists.specs.Stored.{pairs_in}
use Rattle.sets.specs.declared.Sets.{Sets}
use Rattle.sets.specs.Stored.{past}

-- the set whose identifiers stand in a list's arrays; where the list is none, it has no identifier and no name
unfoldable pub set_in : IdList → IdSet
set_in l = record { items = pairs_in l.kinds l.numbers l.len; named = l.named }

-- that set, shown under its key, on or off
unfoldable pub shown_as : ℕ → Bool → IdList → Shown
shown_as key on l = record { key = key; on = on; set = set_in l }

-- the set that stands at a place, and the same with the number of the block at which it was last shown
abbrev pub shown_at : Sets → ℕ → Shown
shown_at t i = shown_as (get_or t.keys i 0) (get_or t.on i false) (get_or t.shown i past)

abbrev pub confirmed_at : Sets → ℕ → Confirmed
confirmed_at t i = record { shown = shown_at t i; block = get_or t.confirmed i 0 }

-- of n entries from a place on, what is said of the places at which a set is shown; an empty list stores that there is none
unfoldable pub shown_from : {A : Type 0} → (Sets → ℕ → A) → Sets → ℕ → ℕ → List A
shown_from f t i zero = []
shown_from f t i (suc n) = cond (eqb (get_or t.shown i past).len 0) (shown_from f t (i + 1) n) (f t i ∷ shown_from f t (i + 1) n)

-- the sets of n entries from a place on, and those with their numbers
abbrev pub sets_from : Sets → ℕ → ℕ → List Shown
sets_from t i n = shown_from shown_at t i n

abbrev pub confirmed_from : Sets → ℕ → ℕ → List Confirmed
confirmed_from t i n = shown_from confirmed_at t i n

-- of all the entries, of which there are 32 at most
unfoldable pub sets_in : Sets → List Shown
sets_in t = sets_from t 0 (min t.count most_keys)

unfoldable pub confirmed_sets_in : Sets → List Confirmed
confirmed_sets_in t = confirmed_from t 0 (min t.count most_keys)
