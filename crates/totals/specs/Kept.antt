-- Totals kept by what changes: a set more, a set less, one in the place of another. A figure goes from 0 to the largest number that
-- is stored; sets that meet their rules never reach it (proofs/Laws.antt).
use Rattle.std.specs.Prelude.{ℕ, zero, suc, ◌+◌, ◌-◌, min, Bool, false, cond, ◌&&◌, [], ◌∷◌, get_or, eqb}
use Rattle.rules.specs.Block.{bit}
use Rattle.rules.specs.Collecting.{Entries, most_keys}
use Rattle.lists.specs.Stored.{store_maybe}
use Rattle.sets.specs.declared.Sets.{Sets}
use Rattle.sets.specs.Stored.{past}
use Rattle.totals.specs.declared.Totals.{Totals}
use Rattle.totals.specs.Totals.{no_totals}

-- the largest number that is stored
abbrev pub most : ℕ
most = 18446744073709551615

-- a figure and what is added to it
unfoldable pub raised : ℕ → ℕ → ℕ
raised a b = min (a + b) most

-- the figures of one set by its length, on or off; a length of 0 stores that there is none
unfoldable pub of_set : ℕ → Bool → Totals
of_set n on = cond (eqb n 0) no_totals (record { shown = 1; on = bit on; identifiers = n })

unfoldable pub plus : Totals → Totals → Totals
plus t u =
    record { shown = raised t.shown u.shown; on = raised t.on u.on; identifiers = raised t.identifiers u.identifiers }

unfoldable pub minus : Totals → Totals → Totals
minus t u = record { shown = t.shown - u.shown; on = t.on - u.on; identifiers = t.identifiers - u.identifiers }

-- a set more, a set less, a set in the place of another
unfoldable pub with_set : Totals → ℕ → Bool → Totals
with_set t n on = plus t (of_set n on)

unfoldable pub without_set : Totals → ℕ → Bool → Totals
without_set t n on = minus t (of_set n on)

-- two sets are counted alike: as long, and both on or both off
unfoldable pub alike : ℕ → Bool → ℕ → Bool → Bool
alike n on n' on' = eqb n n' && eqb (bit on) (bit on')

-- one like it changes nothing
unfoldable pub exchanged_set : Totals → ℕ → Bool → ℕ → Bool → Totals
exchanged_set t n on n' on' = cond (alike n on n' on') t (with_set (without_set t n on) n' on')

-- one set after another, of entries
unfoldable pub kept_up : Entries → Totals
kept_up [] = no_totals
kept_up (e ∷ es) = with_set (kept_up es) (store_maybe e.shown).len e.state

-- added up over n entries of a table's arrays from a place on, whatever they hold; over all entries, of which there are 32 at most
unfoldable pub totals_from : Sets → ℕ → ℕ → Totals
totals_from t i zero = no_totals
totals_from t i (suc n) = with_set (totals_from t (i + 1) n) (get_or t.shown i past).len (get_or t.on i false)

unfoldable pub totals_in : Sets → Totals
totals_in t = totals_from t 0 (min t.count most_keys)

-- all three are equal
unfoldable pub same_totals : Totals → Totals → Bool
same_totals t u = eqb t.shown u.shown && eqb t.on u.on && eqb t.identifiers u.identifiers
