-- Writing for air (document 01): the shown sets as blocks of one linking FIG each.
use Rattle.std.specs.Prelude.{ℕ, zero, suc, ◌+◌, ◌*◌, ◌/◌, ◌%◌, ◌^◌, Bool, true, false, cond, ◌&&◌, List, [], ◌∷◌, ◌++◌, map, length, take, replicate, ltb, eqb}
use Rattle.rules.specs.Block.{check_of, bit}
use Rattle.rules.specs.Field.{Pair, kind_in, rds, drm}
use Rattle.rules.specs.Collecting.{Content, IdSet, Shown, shown_sets, key_width, first_of}
use Rattle.lists.specs.Kinds.{is_dead}

-- ---- cutting a set

-- a piece of a set: a start or a continuation, its qualifier and its identifiers' numbers
pub record Piece : Type 0 where
  pub more : Bool
  pub qualifier : ℕ
  pub numbers : List ℕ

-- the most identifiers to a piece, by their bytes
unfoldable pub piece_most : ℕ → ℕ
piece_most w = cond (eqb w 4) 6 (cond (eqb w 3) 8 12)

-- the next identifier still goes into a piece: of its kind, and room for it
unfoldable pub goes_on : ℕ → Piece → Pair → Bool
goes_on most c p = eqb p.kind c.qualifier && ltb (length c.numbers) most

-- the piece that the next identifier is in
unfoldable pub piece_with : Bool → Piece → Pair → Piece
piece_with true c p = record { more = c.more; qualifier = c.qualifier; numbers = c.numbers ++ p.number ∷ [] }
piece_with false c p = record { more = true; qualifier = p.kind; numbers = p.number ∷ [] }

-- the pieces before it that are complete
unfoldable pub completed : Bool → Piece → List Piece → List Piece
completed true c rest = rest
completed false c rest = c ∷ rest

-- a begun piece and the identifiers that are left: each next piece takes the next run of one kind
unfoldable pub chop : ℕ → Piece → List Pair → List Piece
chop most c [] = c ∷ []
chop most c (p ∷ ps) = completed (goes_on most c p) c (chop most (piece_with (goes_on most c p) c p) ps)

-- the qualifier of a start, by the kind of its first identifier and the kinds behind it: that of the next, where a start of that kind begins
-- with the first; else the first's own. So with OE 0 a start takes the first identifier and the run of one kind that follows, and its qualifier is
-- that kind, or 0 if there is one identifier; with OE 1 it takes the first run of one kind, and its qualifier is that (document 02, R-3)
unfoldable pub start_qualifier : ℕ → ℕ → List ℕ → ℕ
start_qualifier k x [] = first_of k x
start_qualifier k x (y ∷ ys) = cond (eqb (first_of k y) x) y x

-- a start begun with its first identifier, before those that follow
abbrev pub start_of : ℕ → Pair → List Pair → Piece
start_of k p ps = record { more = false; qualifier = start_qualifier k p.kind (map kind_in ps); numbers = p.number ∷ [] }

-- the pieces of a key's identifiers
unfoldable pub cut : ℕ → List Pair → List Piece
cut k [] = []
cut k (p ∷ ps) = chop (piece_most (key_width k)) (start_of k p ps) ps

-- a continuation with count 0 for a named kind that has no identifier
unfoldable pub dead_link : ℕ → Bool → List Pair → List Piece
dead_link k named ps = cond (is_dead k named ps) (record { more = true; qualifier = k; numbers = [] } ∷ []) []

-- the pieces of a key's set
unfoldable pub pieces : ℕ → IdSet → List Piece
pieces k l =
    cut k l.items ++ dead_link rds (eqb (l.named % 2) 1) l.items ++ dead_link drm (eqb (l.named / 2) 1) l.items

-- ---- a piece as a block

-- a number in w bytes, the highest first
unfoldable pub big_bytes : ℕ → ℕ → List ℕ
big_bytes zero n = []
big_bytes (suc w) n = (n / 256 ^ w % 256) ∷ big_bytes w n

unfoldable pub all_bytes : ℕ → List ℕ → List ℕ
all_bytes w [] = []
all_bytes w (n ∷ ns) = big_bytes w n ++ all_bytes w ns

-- the FIG's byte (C/N, OE, P/D, extension 6) and the field, with LA the present state
unfoldable pub field_bytes : ℕ → Bool → Piece → List ℕ
field_bytes k on c =
    (bit c.more * 128 + k / 32768 % 2 * 64 + k / 16384 % 2 * 32 + 6)
    ∷ (128 + bit on * 64 + k / 8192 % 2 * 32 + k / 4096 % 2 * 16 + k % 4096 / 256)
    ∷ (k % 256)
    ∷ (c.qualifier * 32 + length c.numbers)
    ∷ all_bytes (key_width k) c.numbers

-- one FIG of type 0, whose first byte is the number of bytes that follow
unfoldable pub fig_bytes : ℕ → Bool → Piece → List ℕ
fig_bytes k on c = length (field_bytes k on c) ∷ field_bytes k on c

-- a block around FIGs: FF if there is room, zeros, the check
unfoldable pub block_of : List ℕ → List ℕ
block_of figs =
    let data' = take 30 (figs ++ 255 ∷ replicate 30 0) in
    data' ++ (check_of data' / 256) ∷ (check_of data' % 256) ∷ []

unfoldable pub blocks_of : ℕ → Bool → List Piece → List ℕ
blocks_of k on [] = []
blocks_of k on (c ∷ cs) = block_of (fig_bytes k on c) ++ blocks_of k on cs

unfoldable pub set_blocks : Shown → List ℕ
set_blocks s = blocks_of s.key s.on (pieces s.key s.set)

unfoldable pub all_blocks : List Shown → List ℕ
all_blocks [] = []
all_blocks (s ∷ ss) = set_blocks s ++ all_blocks ss

-- the whole output: the shown sets in ascending key order
unfoldable pub air : Content → List ℕ
air t = all_blocks (shown_sets t.sets)
