-- What is told of a block has a single answer.
use Prim.Native.Nat.{ℕ}
use mathlib.Core.Path.{◌≡◌, sym, ◌∙◌}
use mathlib.Core.Bool.{Bool}
use mathlib.Core.List.{List}
use Rattle.out.specs.declared.Page.{Page}
use Rattle.report.specs.Telling.{Tells}

-- the answer, what the page's buffer holds then, and the place after the text
pub tells_single : (old : Page) (text : List ℕ) (b : Bool) (new new' : Page) (r q : Bool) → Tells old text b new r → Tells old text b new' q
    → (r ≡ q) × (new.buffer.now ≡ new'.buffer.now) × (new.at ≡ new'.at)
tells_single old text b new new' r q x y = (
  x.refused_is ∙ sym y.refused_is,
  x.writes.puts.stored ∙ sym y.writes.puts.stored,
  x.writes.reached ∙ sym y.writes.reached,
)
