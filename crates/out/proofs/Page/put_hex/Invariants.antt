-- `out::Page::put_hex` meets its contract: the low digits are what is left to write.
use Rattle.out.specs.Text.{hex_text}
use Rattle.out.proofs.Pages.{Going}
use Rattle.out.proofs.Page.put_hex.Given as goal

abbrev pub invariant-loop-place : goal.invariant-loop-place
invariant-loop-place l = Going l.initial.self (hex_text l.digits l.n) l.self (hex_text l.place l.n)
