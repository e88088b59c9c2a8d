-- What a function that tells of a block answers.
use Rattle.std.specs.Prelude.{ℕ, ◌≡◌, Bool, List}
use Rattle.out.specs.Page.{Writes}
use Rattle.out.specs.declared.Page.{Page}

-- this text is written on a page, and the block is refused or not
pub record Tells (old : Page) (text : List ℕ) (refused : Bool) (new : Page) (answer : Bool) : Type 0 where
  pub writes : Writes old text new
  pub refused_is : answer ≡ refused
