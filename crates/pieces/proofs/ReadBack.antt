-- What is written for air reads back (document 01, Writing for air; demand 2). In order: what a piece's field says; a set's pieces as
-- fields that send it (rules/proofs/Sent.antt); the blocks of a set read into a content; the whole output read once into the empty content, and then again;
-- and the theorems: the sets are shown again, every block is taken, the length.
use Prim.Native.Nat.{ℕ, zero, suc, ◌+◌, ◌*◌, ◌/◌, ◌%◌, ◌≤◌, ◌<◌}
use native.Mathlib.Omega.{arith}
use mathlib.Core.Path.{◌≡◌, refl, sym, ap, ◌∙◌}
use mathlib.Core.Bool.{Bool, true, false, cond}
use mathlib.Core.List.{List, [], ◌∷◌, ◌++◌, map, append_assoc, append-nil}
use mathlib.Core.Option.{Option, none, some}
use lib.ListN.{length, take, drop, length-append}
use lib.Seq.{take_at, drop_at, drop-append-add}
use lib.Dec.{ltb, eqb}
use borrow.Author.Tests.{ltb-true, lt-ltb}
use Rattle.rules.specs.Block.{bit}
use Rattle.rules.specs.Field.{Field, key_of, pairs_of, named_by, has_list, is_continuation}
use Rattle.rules.specs.Family.{start, continuation, Said, step, steps}
use Rattle.rules.specs.Collecting.{linkage, join_names, IdSet, Held, Entries, Content, nothing, brings, act_of, said, key_width, oe_of, first_of, set_meets, if_there, entry_meets, ascends, entries_meet, meets, Shown, showing, shown_sets, most_keys}
use Rattle.rules.specs.Outcomes.{verdict, taken, read_recording, left_over}
use Rattle.rules.specs.Numbers.{bare, plain_after, plain_blocks, plain_recording}
use Rattle.pieces.specs.Air.{Piece, piece_most, pieces, fig_bytes, block_of, blocks_of, set_blocks, all_blocks, air}
use Rattle.rules.proofs.Basics.{cases_bool, cases-option, and_left, and_right, Every, every_append, every_imp}
use Rattle.rules.proofs.TableRules.{kind_small, names_small, names_none, lawful, all_differ_law, SetRules, set_rules, entry_rules, key_meets_law, table_rules, sets_meet_law, shown_few, join_assoc, join_to_zero}
use Rattle.rules.proofs.LinkageLaws.{recording_append}
use Rattle.rules.proofs.Numbers.{bare_shown_law, plain_recording_law}
use Rattle.rules.proofs.Sent.{KeysBefore, with_piece, with_pieces, Continue, Sends, sent_new, sent_again}
use Rattle.pieces.proofs.Cutting.{Below, piece_pairs, flat, flat_pieces, IsMore, Shape, pieces_shape, PieceMeets, pieces_meet, set_count, pieces_named, pieces_named_law}
use Rattle.pieces.proofs.BlockBack.{field_of, block_length, verdict_back, piece_bytes}

-- ---- what a piece's field says

-- what a piece of a key's set brings
unfoldable pub brings_of : ℕ → Piece → IdSet
brings_of k c = record { items = piece_pairs k c; named = named_by c.qualifier }

-- a piece of a set with this key and state, as a field
unfoldable pub said_of : ℕ → Bool → Piece → Said linkage
said_of k on c = record { key = k; state = on; act = cond c.more (continuation (brings_of k c)) (start (brings_of k c)); stamp = 0 }

-- a number and its half
halves : (k : ℕ) → (k / 16384 ≡ 2 * (k / 32768) + k / 16384 % 2) × (k / 8192 ≡ 2 * (k / 16384) + k / 8192 % 2) × (k / 4096 ≡ 2 * (k / 8192) + k / 4096 % 2)
halves k = (omega arith, omega arith, omega arith)

key_sum : (k : ℕ) → k < 65536 → 32768 * (k / 32768 % 2) + 16384 * (k / 16384 % 2) + 8192 * (k / 8192 % 2) + 4096 * (k / 4096 % 2) + k % 4096 ≡ k
key_sum k h =
    let a : k / 32768 % 2 ≡ k / 32768 = omega arith in
    let d : k ≡ 4096 * (k / 4096) + k % 4096 = omega arith in
    sums (k / 32768 % 2) (k / 16384 % 2) (k / 8192 % 2) (k / 4096 % 2) (k % 4096) (k / 32768) (k / 16384) (k / 8192) (k / 4096) k
    a (halves k).0 (halves k).1 (halves k).2 d
  where
    sums : (a b c d e p q r s n : ℕ) → a ≡ p → q ≡ 2 * p + b → r ≡ 2 * q + c → s ≡ 2 * r + d → n ≡ 4096 * s + e
        → 32768 * a + 16384 * b + 8192 * c + 4096 * d + e ≡ n
    sums a b c d e p q r s n h1 h2 h3 h4 h5 = omega arith

key_back : (k : ℕ) (on : Bool) (c : Piece) → k < 65536 → key_of (field_of k on c) ≡ k
unfolding key_of field_of
key_back k on c h = key_sum k h

state_back : (on : Bool) → eqb (bit on) 1 ≡ on
unfolding bit
state_back true = refl
state_back false = refl

act_back : (k : ℕ) (on : Bool) (c : Piece) → act_of (field_of k on c) ≡ (said_of k on c).act
unfolding act_of field_of said_of has_list is_continuation brings brings_of pairs_of piece_pairs first_of bit
act_back k on c = cases_bool c.more (λ e. rw e) (λ e. rw e)

pub said_back : (k : ℕ) (on : Bool) (c : Piece) → k < 65536 → said 0 (field_of k on c) ≡ said_of k on c
unfolding said said_of field_of
said_back k on c h = λ i. record { key = key_back k on c h i; state = state_back on i; act = act_back k on c i; stamp = 0 }

-- ---- a set's pieces as fields

-- what is held of a key
unfoldable pub entry : ℕ → Bool → Option IdSet → Option IdSet → Held
entry k on sh dr = record { key = k; state = on; shown = sh; draft = dr; stamp = 0 }

-- every key of a content is below a key
abbrev pub KeysBelow : ℕ → Entries → Type 0
KeysBelow k t = Every (λ (e : Held). e.key < k) t

keys_before : (k : ℕ) (t : Entries) → KeysBelow k t → KeysBefore linkage k t
keys_before k t h = every_imp (λ (e : Held). e.key < k) (λ (e : Held). ltb e.key k ≡ true) (λ e l. lt-ltb e.key k l) t h

-- the list that the pieces after the first make of it
unfoldable pub collected : ℕ → IdSet → List Piece → IdSet
collected k d cs = record { items = d.items ++ flat k cs; named = join_names d.named (pieces_named cs) }

collected_is : (k : ℕ) (d : IdSet) (cs : List Piece) → with_pieces linkage d (map (brings_of k) cs) ≡ collected k d cs
unfolding with_pieces collected flat pieces_named
collected_is k d [] = λ i. record { items = sym (append-nil d.items) i; named = sym (join_to_zero d.named) i }
collected_is k d (c ∷ cs) =
    collected_is k (with_piece linkage d (brings_of k c)) cs
    ∙ unfold with_piece brings_of in
    λ i.
    record {
      items = append_assoc d.items (piece_pairs k c) (flat k cs) i;
      named = join_assoc d.named (named_by c.qualifier) (pieces_named cs) i;
    }

-- pieces that are continuations, as fields that continue
goes_on_law : (k : ℕ) (on : Bool) (cs : List Piece) → Every IsMore cs → Continue linkage k on (map (brings_of k) cs) (map (said_of k on) cs)
unfolding said_of
goes_on_law k on [] m = tt
goes_on_law k on (c ∷ cs) m = ((refl, refl, rw m.0), goes_on_law k on cs m.1)

module _ (k : ℕ) (l : IdSet) (parts : SetRules k l) where
  shape_of : Shape false (pieces k l)
  shape_of = pieces_shape k l parts.some

  items_back : piece_pairs k shape_of.first ++ flat k shape_of.others ≡ l.items
  unfolding flat
  items_back = ap (flat k) (sym shape_of.made) ∙ flat_pieces k l parts.first

  names_back : join_names (named_by shape_of.first.qualifier) (pieces_named shape_of.others) ≡ l.named
  unfolding pieces_named
  names_back = ap pieces_named (sym shape_of.made) ∙ pieces_named_law k (key_width k) l parts.first parts.pairs (names_small k l.named parts.names)

  -- a start's list and the continuations make the set
  whole_back : collected k (brings_of k shape_of.first) shape_of.others ≡ l
  unfolding collected brings_of
  whole_back = λ i. record { items = items_back i; named = names_back i }

  module _ (on : Bool) where
    -- its fields send it
    sends : Sends linkage k on l (map (said_of k on) (pieces k l))
    unfolding said_of
    sends =
        record {
          first = said_of k on shape_of.first;
          others = map (said_of k on) shape_of.others;
          made = ap (map (said_of k on)) shape_of.made;
          piece = brings_of k shape_of.first;
          pieces = map (brings_of k) shape_of.others;
          key = refl;
          state = refl;
          act = rw shape_of.begins;
          goes = goes_on_law k on shape_of.others shape_of.goes;
          whole = collected_is k (brings_of k shape_of.first) shape_of.others ∙ whole_back;
        }

    module _ (pre : Entries) (low : KeysBelow k pre) where
      -- a set of a new key: it is the open list, and nothing is shown
      steps_new : length pre < most_keys → (steps linkage pre (map (said_of k on) (pieces k l))).0 ≡ pre ++ entry k on none (some l) ∷ []
      unfolding entry
      steps_new r =
          sent_new linkage lawful k on pre (keys_before k pre low) l parts.short ((all_differ_law l.items).0 parts.differ) (map (said_of k on) (pieces k l))
          sends r

      -- a set of a key with an open list: that list is shown, and the set is the open list
      steps_again : (post : Entries) (b : Bool) (sh : Option IdSet) (d : IdSet)
          → (steps linkage (pre ++ entry k b sh (some d) ∷ post) (map (said_of k on) (pieces k l))).0 ≡ pre ++ entry k on (some d) (some l) ∷ post
      unfolding entry sends said_of
      steps_again post b sh d =
          sent_again linkage lawful k on pre (keys_before k pre low) l parts.short ((all_differ_law l.items).0 parts.differ) (map (said_of k on) (pieces k l))
          sends post b sh d 0

-- ---- a set's blocks

-- a recording read into sets, apart from their numbers
abbrev read_into : Entries → List ℕ → Entries
read_into t bytes = plain_recording t bytes

-- a block in front of a recording
read_block_law : (t : Entries) (b rest : List ℕ) → length b ≡ 32 → read_into t (b ++ rest) ≡ read_into (plain_after t (verdict b)) rest
unfolding plain_recording plain_blocks
read_block_law t b rest h =
    let n : length (b ++ rest) / 32 ≡ suc (length rest / 32) = omega (arith, length-append b rest) in
    ap (λ (x : ℕ). plain_blocks x t (b ++ rest)) n
    ∙ ap (λ (x : List ℕ). plain_blocks (length rest / 32) (plain_after t (verdict x)) (drop 32 (b ++ rest))) (take_at b rest 32 h)
    ∙ ap (λ (x : List ℕ). plain_blocks (length rest / 32) (plain_after t (verdict b)) x) (drop_at b rest 32 h)

-- a taken block with one field
read_taken : (t : Entries) (b : List ℕ) (f : Field) → verdict b ≡ taken (f ∷ []) → plain_after t (verdict b) ≡ (step linkage t (said 0 f)).0
unfolding plain_after steps
read_taken t b f e = rw e

-- every block of a recording is taken, with one field
abbrev pub EachTaken : List ℕ → Type 0
EachTaken bytes = (i : ℕ) → 32 * i < length bytes → (f : Field) × (verdict (take 32 (drop (32 * i) bytes)) ≡ taken (f ∷ []))

taken_first : (b rest : List ℕ) (f : Field) → length b ≡ 32 → verdict b ≡ taken (f ∷ []) → EachTaken rest → EachTaken (b ++ rest)
taken_first b rest f n e h zero j = (f, ap verdict (take_at b rest 32 n) ∙ e)
taken_first b rest f n e h (suc i) j =
    let l : length (b ++ rest) ≡ length b + length rest = length-append b rest in
    let r : (g : Field) × (verdict (take 32 (drop (32 * i) rest)) ≡ taken (g ∷ [])) = h i (omega arith) in
    let p : 32 * suc i ≡ length b + 32 * i = omega arith in
    let d : drop (32 * suc i) (b ++ rest) ≡ drop (32 * i) rest = ap (λ (x : ℕ). drop x (b ++ rest)) p ∙ drop-append-add b rest (32 * i) in
    (r.0, ap (λ (x : List ℕ). verdict (take 32 x)) d ∙ r.1)

-- a shown set that can be sent: its key is below 65,536 and has an LSN, and it meets the table rules
pub record Sendable (s : Shown) : Type 0 where
  pub small : s.key < 65536
  pub lsn : s.key % 4096 ≡ 0 → ⊥
  pub right : set_meets s.key s.set ≡ true

-- pieces of a set that can be sent
module _ (k named : ℕ) (on : Bool) (small : k < 65536) (lsn : k % 4096 ≡ 0 → ⊥) (none' : k / 16384 % 2 ≡ 1 → named ≡ 0) where
  read_pieces : (t : Entries) (cs : List Piece) (rest : List ℕ) → Every (PieceMeets (key_width k) named (piece_most (key_width k))) cs
      → read_into t (blocks_of k on cs ++ rest) ≡ read_into (steps linkage t (map (said_of k on) cs)).0 rest
  unfolding blocks_of steps
  read_pieces t [] rest m = refl
  read_pieces t (c ∷ cs) rest m =
      let b : List ℕ = block_of (fig_bytes k on c) in
      ap (λ (x : List ℕ). read_into t x) (append_assoc b (blocks_of k on cs) rest)
      ∙ read_block_law t b (blocks_of k on cs ++ rest) (block_length (fig_bytes k on c))
      ∙ ap (λ (x : Entries). read_into x (blocks_of k on cs ++ rest))
      (read_taken t b (field_of k on c) (verdict_back k named c lsn m.0 none' on) ∙ ap (λ (f : Said linkage). (step linkage t f).0) (said_back k on c small))
      ∙ read_pieces (step linkage t (said_of k on c)).0 cs rest m.1

  -- every block of the pieces is taken
  taken_pieces : (cs : List Piece) (rest : List ℕ) → Every (PieceMeets (key_width k) named (piece_most (key_width k))) cs → EachTaken rest
      → EachTaken (blocks_of k on cs ++ rest)
  unfolding blocks_of
  taken_pieces [] rest m h = h
  taken_pieces (c ∷ cs) rest m h =
      let b : List ℕ = block_of (fig_bytes k on c) in
      rw (append_assoc b (blocks_of k on cs) rest)
      (taken_first b (blocks_of k on cs ++ rest) (field_of k on c) (block_length (fig_bytes k on c)) (verdict_back k named c lsn m.0 none' on)
      (taken_pieces cs rest m.1 h))

pub blocks_length : (k : ℕ) (on : Bool) (cs : List Piece) → length (blocks_of k on cs) ≡ 32 * length cs
unfolding blocks_of
blocks_length k on [] = refl
blocks_length k on (c ∷ cs) =
    omega (arith, length-append (block_of (fig_bytes k on c)) (blocks_of k on cs), block_length (fig_bytes k on c), blocks_length k on cs)

blocks_bytes : (k named : ℕ) (on : Bool) (cs : List Piece) → Every (PieceMeets (key_width k) named (piece_most (key_width k))) cs → Below 256 (blocks_of k on cs)
unfolding blocks_of
blocks_bytes k named on [] m = tt
blocks_bytes k named on (c ∷ cs) m =
    every_append (λ (b : ℕ). b < 256) (block_of (fig_bytes k on c)) (blocks_of k on cs)
    (piece_bytes k on c (kind_small named c.qualifier m.0.kind) m.0.few) (blocks_bytes k named on cs m.1)

pieces_sent : (s : Shown) → Sendable s
    → Every (PieceMeets (key_width s.key) s.set.named (piece_most (key_width s.key))) (pieces s.key s.set)
pieces_sent s h = pieces_meet s.key (key_width s.key) s.set ((set_rules s.key s.set).0 h.right).pairs

-- a set's blocks are made of bytes
set_bytes : (s : Shown) → Sendable s → Below 256 (set_blocks s)
unfolding set_blocks
set_bytes s h = blocks_bytes s.key s.set.named s.on (pieces s.key s.set) (pieces_sent s h)

-- a set's blocks, as its pieces' fields
read_set_law : (s : Shown) (t : Entries) (rest : List ℕ) → Sendable s
    → read_into t (set_blocks s ++ rest) ≡ read_into (steps linkage t (map (said_of s.key s.on) (pieces s.key s.set))).0 rest
unfolding set_blocks
read_set_law s t rest h =
    read_pieces s.key s.set.named s.on h.small h.lsn (names_none s.key s.set.named ((set_rules s.key s.set).0 h.right).names) t
    (pieces s.key s.set) rest (pieces_sent s h)

taken_set : (s : Shown) (rest : List ℕ) → Sendable s → EachTaken rest → EachTaken (set_blocks s ++ rest)
unfolding set_blocks
taken_set s rest h g =
    taken_pieces s.key s.set.named s.on h.small h.lsn (names_none s.key s.set.named ((set_rules s.key s.set).0 h.right).names)
    (pieces s.key s.set) rest (pieces_sent s h) g

-- a set's blocks take 4,096 bytes at most, and 32 more with OE 1
pub set_length : (s : Shown) → Sendable s → length (set_blocks s) ≤ 4096 + 32 * oe_of s.key
unfolding set_blocks
set_length s h = omega (arith, blocks_length s.key s.on (pieces s.key s.set), set_count s.key s.set h.right)

-- ---- the whole output

-- sets that can be sent, in ascending key order above a number
abbrev pub InOrder : ℕ → List Shown → Type 0
InOrder last [] = Unit {0}
InOrder last (s ∷ ss) = (last < s.key) × Sendable s × InOrder s.key ss

order_lower : (m n : ℕ) (ss : List Shown) → m ≤ n → InOrder n ss → InOrder m ss
order_lower m n [] h g = tt
order_lower m n (s ∷ ss) h g = (omega (arith, g.0), g.1, g.2)

-- a set as the open list of its key, with nothing shown; and the same with it shown too
unfoldable pub opened : Shown → Held
opened s = entry s.key s.on none (some s.set)

unfoldable pub again : Shown → Held
again s = entry s.key s.on (some s.set) (some s.set)

keys_up : (m n : ℕ) (t : Entries) → m ≤ n → KeysBelow m t → KeysBelow n t
keys_up m n t h g = every_imp (λ (e : Held). e.key < m) (λ (e : Held). e.key < n) (λ e x. omega arith) t g

keys_next : (t : Entries) (e : Held) → KeysBelow e.key t → KeysBelow (suc e.key) (t ++ e ∷ [])
keys_next t e h =
    every_append (λ (x : Held). x.key < suc e.key) t (e ∷ []) (keys_up e.key (suc e.key) t (omega arith) h) (omega arith, tt)

-- read once: every set is the open list of its key
first_pass : (pre : Entries) (last : ℕ) (ss : List Shown) (rest : List ℕ) → InOrder last ss → KeysBelow (suc last) pre → length pre + length ss ≤ most_keys
    → read_into pre (all_blocks ss ++ rest) ≡ read_into (pre ++ map opened ss) rest
unfolding all_blocks opened entry
first_pass pre last [] rest o k n = ap (λ (t : Entries). read_into t rest) (sym (append-nil pre))
first_pass pre last (s ∷ ss) rest o k n =
    let low : KeysBelow s.key pre = keys_up (suc last) s.key pre o.0 k in
    ap (λ (x : List ℕ). read_into pre x) (append_assoc (set_blocks s) (all_blocks ss) rest)
    ∙ read_set_law s pre (all_blocks ss ++ rest) o.1
    ∙ ap (λ (t : Entries). read_into t (all_blocks ss ++ rest))
    (steps_new s.key s.set ((set_rules s.key s.set).0 o.1.right) s.on pre low (omega arith))
    ∙ first_pass (pre ++ opened s ∷ []) s.key ss rest o.2 (keys_next pre (opened s) low) (omega (arith, length-append pre (opened s ∷ [])))
    ∙ ap (λ (t : Entries). read_into t rest) (append_assoc pre (opened s ∷ []) (map opened ss))

-- read again: every one is shown
second_pass : (pre : Entries) (last : ℕ) (ss : List Shown) (rest : List ℕ) → InOrder last ss → KeysBelow (suc last) pre
    → read_into (pre ++ map opened ss) (all_blocks ss ++ rest) ≡ read_into (pre ++ map again ss) rest
unfolding all_blocks opened again entry
second_pass pre last [] rest o k = refl
second_pass pre last (s ∷ ss) rest o k =
    let low : KeysBelow s.key pre = keys_up (suc last) s.key pre o.0 k in
    let t : Entries = pre ++ opened s ∷ map opened ss in
    ap (λ (x : List ℕ). read_into t x) (append_assoc (set_blocks s) (all_blocks ss) rest)
    ∙ read_set_law s t (all_blocks ss ++ rest) o.1
    ∙ ap (λ (x : Entries). read_into x (all_blocks ss ++ rest))
    (steps_again s.key s.set ((set_rules s.key s.set).0 o.1.right) s.on pre low (map opened ss) s.on none s.set
    ∙ sym (append_assoc pre (again s ∷ []) (map opened ss)))
    ∙ second_pass (pre ++ again s ∷ []) s.key ss rest o.2 (keys_next pre (again s) low)
    ∙ ap (λ (x : Entries). read_into x rest) (append_assoc pre (again s ∷ []) (map again ss))

taken_all : (last : ℕ) (ss : List Shown) → InOrder last ss → EachTaken (all_blocks ss)
unfolding all_blocks
taken_all last [] o = λ i h. absurd (omega arith)
taken_all last (s ∷ ss) o = taken_set s (all_blocks ss) o.1 (taken_all s.key ss o.2)

all_blocks_length : (last : ℕ) (ss : List Shown) → InOrder last ss → length (all_blocks ss) ≤ 4128 * length ss
unfolding all_blocks
all_blocks_length last [] o = omega arith
all_blocks_length last (s ∷ ss) o =
    omega (arith, length-append (set_blocks s) (all_blocks ss), set_length s o.1, all_blocks_length s.key ss o.2)

-- whole blocks
all_blocks_whole : (ss : List Shown) → length (all_blocks ss) % 32 ≡ 0
unfolding all_blocks set_blocks
all_blocks_whole [] = refl
all_blocks_whole (s ∷ ss) =
    omega
    (arith, length-append (set_blocks s) (all_blocks ss), blocks_length s.key s.on (pieces s.key s.set), all_blocks_whole ss)

all_blocks_bytes : (last : ℕ) (ss : List Shown) → InOrder last ss → Below 256 (all_blocks ss)
unfolding all_blocks
all_blocks_bytes last [] o = tt
all_blocks_bytes last (s ∷ ss) o =
    every_append (λ (b : ℕ). b < 256) (set_blocks s) (all_blocks ss) (set_bytes s o.1) (all_blocks_bytes s.key ss o.2)

-- ---- the shown sets of a content

shown_again : (ss : List Shown) → shown_sets (map again ss) ≡ ss
unfolding shown_sets showing again entry
shown_again [] = refl
shown_again (s ∷ ss) = ap (λ (r : List Shown). s ∷ r) (shown_again ss)

if_shown : (k : ℕ) (o : Option IdSet) (l : IdSet) → o ≡ some l → if_there k o ≡ true → set_meets k l ≡ true
unfolding if_there
if_shown k o l e h = rw e at h

sendable : (e : Held) (l : IdSet) → entry_meets e ≡ true → e.shown ≡ some l → Sendable (record { key = e.key; on = e.state; set = l })
sendable e l h g =
    let r = (entry_rules e).0 h in
    let k = (key_meets_law e.key).0 r.key in
    record {
      small = k.0;
      lsn = k.1;
      right = if_shown e.key e.shown l g r.shown;
    }

content_order : (last : ℕ) (t : Entries) → ascends last t ≡ true → entries_meet t ≡ true → InOrder last (shown_sets t)
unfolding ascends entries_meet shown_sets showing
content_order last [] a m = tt
content_order last (e ∷ es) a m =
    let up : last < e.key = ltb-true last e.key (and_left (ltb last e.key) (ascends e.key es) a) in
    let rest : InOrder e.key (shown_sets es) =
    content_order e.key es (and_right (ltb last e.key) (ascends e.key es) a) (and_right (entry_meets e) (entries_meet es) m) in
    cases-option e.shown
    (λ g. rw g (order_lower last e.key (shown_sets es) (omega arith) rest))
    (λ l g. rw g (up, sendable e l (and_left (entry_meets e) (entries_meet es) m) g, rest))

-- what the table rules say of a content's shown sets
pub shown_order : (t : Content) → meets t ≡ true → InOrder 0 (shown_sets t.sets)
shown_order t h = let r = (table_rules t.sets).0 (sets_meet_law t h) in content_order 0 t.sets r.ascend r.entries

shown_most : (t : Content) → meets t ≡ true → length (shown_sets t.sets) ≤ most_keys
shown_most t h = omega (arith, shown_few t.sets, ((table_rules t.sets).0 (sets_meet_law t h)).short)

-- ---- the theorems

-- the output in front of a recording, read into no sets: each shown set is the open list of its key
air_front : (t : Content) (rest : List ℕ) → meets t ≡ true → read_into [] (air t ++ rest) ≡ read_into (map opened (shown_sets t.sets)) rest
unfolding air
air_front t rest h = first_pass [] 0 (shown_sets t.sets) rest (shown_order t h) tt (omega (arith, shown_most t h))

-- read into what that leaves: each is shown too
air_next : (t : Content) (rest : List ℕ) → meets t ≡ true → read_into (map opened (shown_sets t.sets)) (air t ++ rest) ≡ read_into (map again (shown_sets t.sets)) rest
unfolding air
air_next t rest h = second_pass [] 0 (shown_sets t.sets) rest (shown_order t h) tt

-- a recording with nothing after it
read_alone : (t : Entries) (bytes : List ℕ) → read_into t bytes ≡ read_into t (bytes ++ [])
read_alone t bytes = ap (read_into t) (sym (append-nil bytes))

read_nothing : (t : Entries) → read_into t [] ≡ t
unfolding plain_recording plain_blocks
read_nothing t = refl

-- what the output leaves when it is read into the empty content, apart from numbers: every shown set as an open list, and nothing shown
pub air_once : (t : Content) → meets t ≡ true → map (bare linkage) (read_recording nothing (air t)).sets ≡ map opened (shown_sets t.sets)
air_once t h = plain_recording_law nothing (air t) ∙ read_alone [] (air t) ∙ air_front t [] h ∙ read_nothing (map opened (shown_sets t.sets))

-- what it leaves when it is read twice: every shown set shown, with its on or off, and once more as an open list
pub air_twice : (t : Content) → meets t ≡ true
    → map (bare linkage) (read_recording (read_recording nothing (air t)) (air t)).sets ≡ map again (shown_sets t.sets)
air_twice t h =
    plain_recording_law (read_recording nothing (air t)) (air t)
    ∙ ap (λ (x : Entries). read_into x (air t)) (air_once t h)
    ∙ read_alone (map opened (shown_sets t.sets)) (air t) ∙ air_next t [] h ∙ read_nothing (map again (shown_sets t.sets))

-- the whole output read twice into the empty content shows the same sets
pub air_shows : (t : Content) → meets t ≡ true → shown_sets (read_recording (read_recording nothing (air t)) (air t)).sets ≡ shown_sets t.sets
air_shows t h = sym (bare_shown_law _) ∙ ap shown_sets (air_twice t h) ∙ shown_again (shown_sets t.sets)

-- and so does a recording of it twice over: its blocks are whole
pub air_shows_twice_over : (t : Content) → meets t ≡ true → shown_sets (read_recording nothing (air t ++ air t)).sets ≡ shown_sets t.sets
air_shows_twice_over t h =
    ap (λ (x : Content). shown_sets x.sets) (recording_append nothing (air t) (air t) (unfold air in all_blocks_whole (shown_sets t.sets))) ∙ air_shows t h

-- every block of it is taken, with one field
pub air_taken : (t : Content) → meets t ≡ true → EachTaken (air t)
unfolding air
air_taken t h = taken_all 0 (shown_sets t.sets) (shown_order t h)

-- it is whole blocks, and at most 132,096 bytes
pub air_whole : (t : Content) → left_over (air t) ≡ 0
unfolding air left_over
air_whole t = all_blocks_whole (shown_sets t.sets)

pub air_length : (t : Content) → meets t ≡ true → length (air t) ≤ 132096
unfolding air
air_length t h = omega (arith, all_blocks_length 0 (shown_sets t.sets) (shown_order t h), shown_most t h)

-- it is made of bytes
pub air_bytes : (t : Content) → meets t ≡ true → Below 256 (air t)
unfolding air
air_bytes t h = all_blocks_bytes 0 (shown_sets t.sets) (shown_order t h)
