-- Better reception never contradicts worse: what that promise speaks of, on the bytes of blocks. It is proved in proofs/Better.antt, from
-- the promise over a family (rules/specs/Receptions.antt, rules/proofs/Better.antt).
use Rattle.std.specs.Prelude.{ℕ, zero, suc, ◌≡◌, false, List, [], ◌∷◌, ◌++◌, map, length}
use Rattle.rules.specs.Block.{check_holds}
use Rattle.rules.specs.Family.{Said}
use Rattle.rules.specs.Collecting.{linkage, Content, next_block, said, Shown}
use Rattle.rules.specs.Receptions.{held_keys, started_keys, once, ShowsIn}
use Rattle.rules.specs.Outcomes.{Verdict, taken, refused, no_block, verdict, read_block, forgotten}

-- ---- receptions

-- what arrives: a block, as its bytes, or the wish to forget a key
pub data Operation : Type 0 where
  block : List ℕ → Operation
  forgetting : ℕ → Operation

-- what a table then holds
unfoldable pub after_one : Content → Operation → Content
after_one t (block fib) = (read_block t fib).left
after_one t (forgetting k) = forgotten k t

-- the fields of a taken block, which has this number
unfoldable pub fields_in : ℕ → Verdict → List (Said linkage)
fields_in n (taken fs) = map (said n) fs
fields_in n (refused o p) = []
fields_in n no_block = []

-- what the fields of an operation say: of a taken block of this number, in order
unfoldable pub said_by : ℕ → Operation → List (Said linkage)
said_by n (block fib) = fields_in n (verdict fib)
said_by n (forgetting k) = []

-- one reception and a worse one: the same, but some blocks of 32 bytes arrive, still as 32 bytes, with a failing check
pub data Worse : List Operation → List Operation → Type 0 where
  over : Worse [] []
  same : {bs ws : List Operation} (o : Operation) → Worse bs ws → Worse (o ∷ bs) (o ∷ ws)
  spoilt : {bs ws : List Operation} (b c : List ℕ) → length b ≡ 32 → length c ≡ 32 → check_holds c ≡ false → Worse bs ws
      → Worse (block b ∷ bs) (block c ∷ ws)

-- a reception that finds this table comes to show a set at field j of operation i
unfoldable pub ShowsAt : Content → List Operation → ℕ → ℕ → Shown → Type 0
ShowsAt t [] i j s = ⊥
ShowsAt t (o ∷ os) zero j s = ShowsIn linkage t.sets (said_by (next_block t.blocks) o) j s.key s.on s.set
ShowsAt t (o ∷ os) (suc i) j s = ShowsAt (after_one t o) os i j s

-- the keys that a reception starts, in taken blocks, whatever their numbers
unfoldable pub started_by : List Operation → List ℕ
started_by [] = []
started_by (o ∷ os) = started_keys linkage (said_by 0 o) ++ started_by os

-- how many distinct keys a table holds or a reception starts
unfoldable pub key_count : Content → List Operation → ℕ
key_count t ops = length (once linkage (held_keys linkage t.sets ++ started_by ops))
