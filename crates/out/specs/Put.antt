-- What a writer of crate out does: it stores a text into a lent buffer, byte by byte from a place on.
use Rattle.std.specs.Prelude.{ℕ, ◌+◌, min, ◌≡◌, List, length}
use Rattle.std.proofs.lemmas.List.Edits.{sets}

-- as much of the text as fits is stored from a place on, up to the place after it, at most the buffer's length
pub record Puts (old : List ℕ) (at : ℕ) (text : List ℕ) (new : List ℕ) (next : ℕ) : Type 0 where
  pub stored : new ≡ sets old at text
  pub after : next ≡ min (at + length text) (length old)
