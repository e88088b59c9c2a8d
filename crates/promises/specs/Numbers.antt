-- Numbers of blocks (document 02, R-9), on the bytes of blocks. In this order: the blocks that are counted; the set that is shown under a key
-- and its number, after a reception.
use Rattle.std.specs.Prelude.{ℕ, suc, ◌+◌, min, ◌≡◌, Bool, false, List, [], ◌∷◌, length, take, eqb}
use Rattle.std.proofs.Math.Option.{some}
use Rattle.rules.specs.Block.{bit}
use Rattle.rules.specs.Family.{find}
use Rattle.rules.specs.Collecting.{linkage, IdSet, Held, Content, most_blocks}
use Rattle.rules.specs.Numbers.{Later}
use Rattle.promises.specs.Demand3.{Operation, block, forgetting, ShowsAt}

-- a block of 32 bytes, whether it is taken or refused
unfoldable pub is_block : Operation → Bool
is_block (block fib) = eqb (length fib) 32
is_block (forgetting k) = false

-- how many there are
unfoldable pub blocks_in : List Operation → ℕ
blocks_in [] = 0
blocks_in (o ∷ os) = bit (is_block o) + blocks_in os

-- the number of operation i, where a table had counted so many blocks: counted on, up to the stop
unfoldable pub number_at : ℕ → List Operation → ℕ → ℕ
number_at n ops i = min (n + blocks_in (take (suc i) ops)) most_blocks

-- where the set that is shown under a key, and its number, are from: shown before the reception, which came to show none of that key; or
-- the last that it came to show, with the number of that block
pub data LastConfirmed (c : Content) (ops : List Operation) (k : ℕ) (l : IdSet) (n : ℕ) : Type 0 where
  earlier : (e : Held) → find linkage k c.sets ≡ some e → e.shown ≡ some l → e.stamp ≡ n
      → ((i j : ℕ) (on : Bool) (m : IdSet) → ShowsAt c ops i j (record { key = k; on = on; set = m }) → ⊥) → LastConfirmed c ops k l n
  shown : (i j : ℕ) (on : Bool) → ShowsAt c ops i j (record { key = k; on = on; set = l }) → n ≡ number_at c.blocks ops i
      → ((i' j' : ℕ) (on' : Bool) (m : IdSet) → Later linkage i j i' j' → ShowsAt c ops i' j' (record { key = k; on = on'; set = m }) → ⊥)
      → LastConfirmed c ops k l n
