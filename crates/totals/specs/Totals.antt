-- Totals (document 02, R-7): three figures of what a table shows, as sums over the shown sets.
use Rattle.std.specs.Prelude.{ℕ, ◌+◌, List, [], ◌∷◌, length}
use Rattle.rules.specs.Block.{bit}
use Rattle.rules.specs.Collecting.{Content, Shown, shown_sets}
use Rattle.totals.specs.declared.Totals.{Totals}

-- a number of each set, summed up
unfoldable pub sum_of : (Shown → ℕ) → List Shown → ℕ
sum_of f [] = 0
sum_of f (s ∷ ss) = f s + sum_of f ss

-- shown sets, shown sets that are on, identifiers in shown sets
unfoldable pub sums : List Shown → Totals
sums ss =
    record {
      shown = length ss;
      on = sum_of (λ s. bit s.on) ss;
      identifiers = sum_of (λ s. length s.set.items) ss;
    }

-- of a content: over the sets that it shows
unfoldable pub totals_of : Content → Totals
totals_of c = sums (shown_sets c.sets)

-- where nothing is shown
abbrev pub no_totals : Totals
no_totals = record { shown = 0; on = 0; identifiers = 0 }
