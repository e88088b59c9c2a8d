-- What is written on a page: a text is stored into the buffer that it holds, byte by byte from the place that is reached.
use Rattle.std.specs.Prelude.{ℕ, ◌+◌, ◌-◌, ◌≡◌, min, List, length}
use Rattle.std.specs.Borrow.{MutBor}
use Rattle.out.specs.Put.{Puts}
use Rattle.out.specs.declared.Page.{Page}

-- an empty page holds the buffer that is lent to it, as it is
pub record Opens (buffer : MutBor (List ℕ)) (page : Page) : Type 0 where
  pub held : page.buffer.ghost_name ≡ buffer.ghost_name
  pub same : page.buffer.now ≡ buffer.now
  pub first : page.at ≡ 0

-- a text is stored on a page as a writer stores it into the buffer that the page holds, and goes on holding; the place that is reached is
-- the one after the text, at most the buffer's length: it goes on by as many bytes as there was room for, and stays where there was none
-- (`puts` is by what the laws of writers go, and says the place where there was room; `reached` says it wherever the page was)
pub record Writes (old : Page) (text : List ℕ) (new : Page) : Type 0 where
  pub held : new.buffer.ghost_name ≡ old.buffer.ghost_name
  pub puts : Puts old.buffer.now old.at text new.buffer.now (min new.at (length old.buffer.now))
  pub reached : new.at ≡ old.at + min (length text) (length old.buffer.now - old.at)
