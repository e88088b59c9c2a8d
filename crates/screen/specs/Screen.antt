-- The totals of a table as a line of text (document 02, R-7), as bytes.
use Rattle.std.specs.Prelude.{ℕ, List, [], ◌∷◌, ◌++◌}
use Rattle.rules.specs.Collecting.{Content}
use Rattle.totals.specs.declared.Totals.{Totals}
use Rattle.totals.specs.Totals.{totals_of}
use Rattle.out.specs.Text.{decimal}

-- `shown 8, on 7, identifiers 22`
unfoldable pub line_of : Totals → List ℕ
line_of t =
    115 ∷ 104 ∷ 111 ∷ 119 ∷ 110 ∷ 32 ∷ decimal t.shown
    ++ 44 ∷ 32 ∷ 111 ∷ 110 ∷ 32 ∷ decimal t.on
    ++ 44 ∷ 32 ∷ 105 ∷ 100 ∷ 101 ∷ 110 ∷ 116 ∷ 105 ∷ 102 ∷ 105 ∷ 101 ∷ 114 ∷ 115 ∷ 32 ∷ decimal t.identifiers
    ++ 10 ∷ []

-- of a table that holds this
unfoldable pub totals_text : Content → List ℕ
totals_text c = line_of (totals_of c)
