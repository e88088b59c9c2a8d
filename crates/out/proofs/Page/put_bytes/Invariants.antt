-- `out::Page::put_bytes` meets its contract: the bytes from the present one on are what is left to write.
use lib.ListN.{drop}
use Rattle.out.proofs.Pages.{Going}
use Rattle.out.proofs.Page.put_bytes.Given as goal

abbrev pub invariant-loop-byte : goal.invariant-loop-byte
invariant-loop-byte l = Going l.initial.self l.bytes l.self (drop l.byte-index l.bytes)
