-- Calls of read_block and forget_key, one after the other, each given the table that the one before left. They are related by nothing
-- but the contracts of Contracts.antt. In order: what a caller is answered; a run of calls; what the rules say of such a run.
-- Definitions only: their laws are in CallLaws.antt, what is promised of them in Demand2.antt and Demand3.antt.
use Prim.Native.Nat.{ℕ, ◌<◌}
use mathlib.Core.List.{List, [], ◌∷◌, map}
use mathlib.Core.Option.{some}
use mathlib.Core.Path.{◌≡◌}
use lib.ListN.{take, get_elem?}
use Rattle.rules.specs.Field.{Field}
use Rattle.rules.specs.Collecting.{Content}
use Rattle.rules.specs.Outcomes.{number_of, note_number, taken, verdict, read_block, forget_outcome}
use Rattle.promises.specs.Demand3.{Operation, block, forgetting, after_one}
use Rattle.rules.proofs.Basics.{Every}
use Rattle.table.specs.declared.Table.{Table}
use Rattle.table.specs.declared.Forgotten.{Forgotten}
use Rattle.reading.specs.declared.Answer.{Answer}
use Rattle.reading.specs.declared.Noted.{Noted}
use Rattle.promises.proofs.Contracts.{ReadsBlock, Forgets}

-- ---- what a caller is answered

-- the outcome's number, the place, and the numbers of the notes, in order
pub record Reply : Type 0 where
  pub outcome : ℕ
  pub place : ℕ
  pub notes : List ℕ

unfoldable pub number_noted : Noted → ℕ
number_noted n = note_number n.note

-- read off an answer of read_block: its first `count` notes
unfoldable pub block_reply : Answer → Reply
block_reply r = record { outcome = number_of r.outcome; place = r.place; notes = map number_noted (take r.notes.count r.notes.notes) }

-- read off an answer of forget_key, which has no place and no notes
unfoldable pub forget_reply : Forgotten → Reply
forget_reply r = record { outcome = number_of r.outcome; place = 0; notes = [] }

-- ---- a run of calls

-- the table before, the operations, the replies, the table after: `block fib` is a call of read_block with these bytes,
-- `forgetting k` one of forget_key with this key
pub data Calls : Table → List Operation → List Reply → Table → Type 0 where
  ended : {t : Table} → Calls t [] [] t
  reads : {t u : Table} {fib : List ℕ} {os : List Operation} {rs : List Reply} (r : Answer) → ReadsBlock t fib r
      → Calls r.table os rs u → Calls t (block fib ∷ os) (block_reply r ∷ rs) u
  forgets : {t u : Table} {k : ℕ} {os : List Operation} {rs : List Reply} (r : Forgotten) → Forgets t k r
      → Calls r.table os rs u → Calls t (forgetting k ∷ os) (forget_reply r ∷ rs) u

-- the bytes of a block are below 256, which their type u8 says
abbrev pub OfBytes : Operation → Type 0
OfBytes (block fib) = Every (λ b. b < 256) fib
OfBytes (forgetting k) = Unit {0}

-- reply number i has at place j note 2, shown and opened
pub record NotedShown (rs : List Reply) (i j : ℕ) : Type 0 where
  pub reply : Reply
  pub there : get_elem? rs i ≡ some reply
  pub noted : get_elem? reply.notes j ≡ some 2

-- the block that is operation number i is taken, and this is its field number j
pub record FieldAt (ops : List Operation) (i j : ℕ) (f : Field) : Type 0 where
  pub bytes : List ℕ
  pub fields : List Field
  pub arrives : get_elem? ops i ≡ some (block bytes)
  pub judged : verdict bytes ≡ taken fields
  pub found : get_elem? fields j ≡ some f

-- ---- what the rules say of a run

-- what a table then holds
unfoldable pub after_all : Content → List Operation → Content
after_all c [] = c
after_all c (o ∷ os) = after_all (after_one c o) os

-- the reply to one operation
unfoldable pub reply_to : Content → Operation → Reply
reply_to c (block fib) = record { outcome = number_of (read_block c fib).outcome; place = (read_block c fib).place; notes = map note_number (read_block c fib).notes }
reply_to c (forgetting k) = record { outcome = number_of (forget_outcome k c); place = 0; notes = [] }

-- the replies to all of them, in order
unfoldable pub replies_to : Content → List Operation → List Reply
replies_to c [] = []
replies_to c (o ∷ os) = reply_to c o ∷ replies_to (after_one c o) os
