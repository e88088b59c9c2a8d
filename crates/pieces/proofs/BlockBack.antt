-- A piece as a block (document 01, Writing for air). In order: numbers as bytes and back; a walk with one item; the one field
-- of a FIG, and the field that a piece's bytes are read as; the block around a FIG, its length, its check and its one FIG; the
-- verdict on a piece's block; and that such a block is made of bytes.
use Prim.Native.Nat.{ℕ, zero, suc, ◌+◌, ◌-◌, ◌*◌, ◌/◌, ◌%◌, ◌^◌, ◌≤◌, ◌<◌}
use native.Mathlib.Nat.{mod-eq_of_lt, pow-succ', one-le-pow, div-add-mod', zero-mul, zero-add}
use native.Mathlib.Omega.{arith}
use mathlib.Core.Path.{◌≡◌, refl, sym, ap, ◌∙◌}
use mathlib.Core.Bool.{Bool, true, false}
use mathlib.Core.List.{List, [], ◌∷◌, ◌++◌, append_assoc}
use lib.ListN.{length, get_or, take, drop, replicate, length-append}
use lib.Seq.{take_at, drop_at, get_or_at, take-append-add, length-take-le, get_or-append-add}
use lib.Arith.{mod-mul}
use lib.Dec.{leb, ltb, eqb}
use borrow.Author.Tests.{eqb-true, eq-eqb, ne_eqb, le-ltb, le-leb, lt-leb}
use Rattle.rules.specs.Block.{bit, check_of, check_holds, Step, item, end, Placed, whole, after, walk, Fig, fig_at, figs}
use Rattle.rules.specs.Field.{has_list, is_continuation, wrong_value, empty_start, is_linking, Field, width, big_endian, identifiers, list_field, list_bytes, field_at, fields_of}
use Rattle.rules.specs.Collecting.{key_width}
use Rattle.rules.specs.Outcomes.{joined, all_fields, some?, judge_fields, judge_figs, taken, verdict}
use Rattle.pieces.specs.Air.{Piece, big_bytes, all_bytes, field_bytes, fig_bytes, block_of, piece_most}
use Rattle.rules.proofs.Basics.{cases_bool, bit_small, every_append, every_take}
use Rattle.rules.proofs.TableRules.{kind_cases, kind_small}
use Rattle.rules.proofs.Taken.{walk_item, walk_end}
use Rattle.crc.proofs.Sizes.{check_small}
use Rattle.pieces.proofs.Cutting.{Below, most_small, PieceMeets}

-- ---- the bytes of numbers

pub big_length : (w n : ℕ) → length (big_bytes w n) ≡ w
unfolding big_bytes
big_length zero n = refl
big_length (suc w) n = ap suc (big_length w n)

-- the bytes of a number, read after those of m
big_after : (w m n : ℕ) → big_endian m (big_bytes w n) ≡ m * 256 ^ w + n % 256 ^ w
unfolding big_bytes big_endian
big_after zero m n = omega arith
big_after (suc w) m n =
    let d : ℕ = n / 256 ^ w % 256 in
    let e : n % (256 * 256 ^ w) ≡ d * 256 ^ w + n % 256 ^ w = mod-mul n (omega arith) (one-le-pow w 256 (omega arith)) in
    big_after w (m * 256 + d) n ∙ rw (pow-succ' 256 w, e) (omega arith)

pub big_back : (w n : ℕ) → n < 256 ^ w → big_endian 0 (big_bytes w n) ≡ n
big_back w n h = big_after w 0 n ∙ ap (λ (x : ℕ). x + n % 256 ^ w) (zero-mul (256 ^ w)) ∙ zero-add (n % 256 ^ w) ∙ mod-eq_of_lt h

pub all_length : (w : ℕ) (ns : List ℕ) → length (all_bytes w ns) ≡ length ns * w
unfolding all_bytes
all_length w [] = sym (zero-mul w)
all_length w (n ∷ ns) = length-append (big_bytes w n) (all_bytes w ns) ∙ rw (big_length w n, all_length w ns) (omega arith)

-- identifiers come back from their bytes
pub ids_back : (w : ℕ) (ns : List ℕ) → Below (256 ^ w) ns → identifiers w (length ns) (all_bytes w ns) ≡ ns
unfolding identifiers all_bytes
ids_back w [] h = refl
ids_back w (n ∷ ns) h =
    let a : take w (big_bytes w n ++ all_bytes w ns) ≡ big_bytes w n = take_at (big_bytes w n) (all_bytes w ns) w (big_length w n) in
    let b : drop w (big_bytes w n ++ all_bytes w ns) ≡ all_bytes w ns = drop_at (big_bytes w n) (all_bytes w ns) w (big_length w n) in
    rw (a, b, big_back w n h.0, ids_back w ns h.1)

-- ---- walks

-- one item and then the end
walk_one : {A : Type 0} (from : ℕ) (at : ℕ → Step A) (n place next : ℕ) (a : A) → at place ≡ item a next → at next ≡ end
    → walk from at (suc (suc n)) place ≡ whole (record { place = from + place; what = a } ∷ [])
unfolding after
walk_one from at n place next a e f = walk_item from at (suc n) place a next e ∙ ap (after _) (walk_end from at n next f)

-- ---- the field of a FIG with one list

module _ (h a b q : ℕ) (ids : List ℕ) (flag : 128 ≤ a) (full : length ids ≡ list_bytes h a q) where
  field_there : field_at (h ∷ a ∷ b ∷ q ∷ ids) 1 ≡ item (list_field h a b q ids) (4 + list_bytes h a q)
  unfolding field_at
  field_there =
      let L : ℕ = suc (suc (suc (suc (length ids)))) in
      let e1 : leb L 1 ≡ false = lt-leb L 1 (omega arith) in
      let e2 : ltb L 3 ≡ false = le-ltb L 3 (omega arith) in
      let e3 : ltb a 128 ≡ false = le-ltb a 128 flag in
      let e4 : ltb L 4 ≡ false = le-ltb L 4 (omega arith) in
      let e5 : ltb L (4 + list_bytes h a q) ≡ false = le-ltb L (4 + list_bytes h a q) (omega arith) in
      rw (e1, e2, e3, e4, e5)

  field_end : field_at (h ∷ a ∷ b ∷ q ∷ ids) (4 + list_bytes h a q) ≡ end
  unfolding field_at
  field_end =
      let L : ℕ = suc (suc (suc (suc (length ids)))) in
      let e : leb L (4 + list_bytes h a q) ≡ true = le-leb L (4 + list_bytes h a q) (omega arith) in
      rw e

  -- of a FIG that is the first of its block
  pub one_field :
      (t : ℕ) → fields_of (record { place = 0; what = record { type = t; body = h ∷ a ∷ b ∷ q ∷ ids } })
      ≡ whole (record { place = 2; what = list_field h a b q ids } ∷ [])
  unfolding fields_of
  one_field t =
      walk_one 1 (field_at (h ∷ a ∷ b ∷ q ∷ ids)) (suc (suc (length ids))) 1 (4 + list_bytes h a q) (list_field h a b q ids) field_there field_end

-- ---- the field of a piece

-- the field that a piece is read as
unfoldable pub field_of : ℕ → Bool → Piece → Field
field_of k on c =
    record {
      cn = bit c.more;
      oe = k / 32768 % 2;
      pd = k / 16384 % 2;
      flag = 1;
      la = bit on;
      hard = k / 8192 % 2;
      ils = k / 4096 % 2;
      lsn = k % 4096;
      rfu = 0;
      qualifier = c.qualifier;
      shorthand = 0;
      numbers = c.numbers;
    }

-- the four bytes before the identifiers
unfoldable head_byte : ℕ → Piece → ℕ
head_byte k c = bit c.more * 128 + k / 32768 % 2 * 64 + k / 16384 % 2 * 32 + 6

unfoldable flag_byte : ℕ → Bool → ℕ
flag_byte k on = 128 + bit on * 64 + k / 8192 % 2 * 32 + k / 4096 % 2 * 16 + k % 4096 / 256

unfoldable count_byte : Piece → ℕ
count_byte c = c.qualifier * 32 + length c.numbers

head_cn : (k : ℕ) (c : Piece) → head_byte k c / 128 ≡ bit c.more
unfolding head_byte
head_cn k c = omega (arith, bit_small c.more)

head_oe : (k : ℕ) (c : Piece) → head_byte k c / 64 % 2 ≡ k / 32768 % 2
unfolding head_byte
head_oe k c = omega (arith, bit_small c.more)

head_pd : (k : ℕ) (c : Piece) → head_byte k c / 32 % 2 ≡ k / 16384 % 2
unfolding head_byte
head_pd k c = omega (arith, bit_small c.more)

head_ext : (k : ℕ) (c : Piece) → head_byte k c % 32 ≡ 6
unfolding head_byte
head_ext k c = omega (arith, bit_small c.more)

flag_set : (k : ℕ) (on : Bool) → 128 ≤ flag_byte k on
unfolding flag_byte
flag_set k on = omega arith

flag_la : (k : ℕ) (on : Bool) → flag_byte k on / 64 % 2 ≡ bit on
unfolding flag_byte
flag_la k on =
    let x : ℕ = 128 + bit on * 64 + k / 8192 % 2 * 32 + k / 4096 % 2 * 16 + k % 4096 / 256 in
    let e : x / 64 ≡ 2 + bit on = omega arith in
    rw e (omega (arith, bit_small on))

flag_hard : (k : ℕ) (on : Bool) → flag_byte k on / 32 % 2 ≡ k / 8192 % 2
unfolding flag_byte
flag_hard k on =
    let x : ℕ = 128 + bit on * 64 + k / 8192 % 2 * 32 + k / 4096 % 2 * 16 + k % 4096 / 256 in
    let e : x / 32 ≡ 4 + bit on * 2 + k / 8192 % 2 = omega arith in
    rw e (omega arith)

flag_ils : (k : ℕ) (on : Bool) → flag_byte k on / 16 % 2 ≡ k / 4096 % 2
unfolding flag_byte
flag_ils k on = omega (arith, bit_small on)

flag_lsn : (k : ℕ) (on : Bool) → flag_byte k on % 16 * 256 + k % 256 ≡ k % 4096
unfolding flag_byte
flag_lsn k on = omega (arith, bit_small on)

count_rfu : (c : Piece) → c.qualifier < 4 → length c.numbers < 16 → count_byte c / 128 ≡ 0
unfolding count_byte
count_rfu c q n = omega arith

count_qualifier : (c : Piece) → c.qualifier < 4 → length c.numbers < 16 → count_byte c / 32 % 4 ≡ c.qualifier
unfolding count_byte
count_qualifier c q n = omega arith

count_shorthand : (c : Piece) → length c.numbers < 16 → count_byte c / 16 % 2 ≡ 0
unfolding count_byte
count_shorthand c n = omega arith

count_count : (c : Piece) → length c.numbers < 16 → count_byte c % 16 ≡ length c.numbers
unfolding count_byte
count_count c n = omega arith

-- the width that a piece's bytes say is its key's
bytes_width : (k : ℕ) (on : Bool) (c : Piece) → width (head_byte k c / 32 % 2) (flag_byte k on / 16 % 2) ≡ key_width k
unfolding key_width
bytes_width k on c = rw (head_pd k c, flag_ils k on)

-- a piece's bytes are read as its field
list_back : (k : ℕ) (on : Bool) (c : Piece) → c.qualifier < 4 → length c.numbers < 16 → Below (256 ^ key_width k) c.numbers
    → list_field (head_byte k c) (flag_byte k on) (k % 256) (count_byte c) (all_bytes (key_width k) c.numbers) ≡ field_of k on c
unfolding list_field field_of
list_back k on c q n h =
    let ids : identifiers (width (head_byte k c / 32 % 2) (flag_byte k on / 16 % 2)) (count_byte c % 16) (all_bytes (key_width k) c.numbers) ≡ c.numbers =
    rw (bytes_width k on c, count_count c n) (ids_back (key_width k) c.numbers h) in
    λ i.
    record {
      cn = head_cn k c i;
      oe = head_oe k c i;
      pd = head_pd k c i;
      flag = 1;
      la = flag_la k on i;
      hard = flag_hard k on i;
      ils = flag_ils k on i;
      lsn = flag_lsn k on i;
      rfu = count_rfu c q n i;
      qualifier = count_qualifier c q n i;
      shorthand = count_shorthand c n i;
      numbers = ids i;
    }

list_full : (k : ℕ) (on : Bool) (c : Piece) → length c.numbers < 16
    → length (all_bytes (key_width k) c.numbers) ≡ list_bytes (head_byte k c) (flag_byte k on) (count_byte c)
unfolding list_bytes
list_full k on c n = rw (bytes_width k on c, count_count c n) (all_length (key_width k) c.numbers)

-- the FIG of a piece, first in its block
unfoldable pub fig_of : ℕ → Bool → Piece → Placed Fig
fig_of k on c = record { place = 0; what = record { type = 0; body = field_bytes k on c } }

pub fields_back : (k : ℕ) (on : Bool) (c : Piece) → c.qualifier < 4 → length c.numbers < 16 → Below (256 ^ key_width k) c.numbers
    → fields_of (fig_of k on c) ≡ whole (record { place = 2; what = field_of k on c } ∷ [])
unfolding fig_of field_bytes head_byte flag_byte count_byte
fields_back k on c q n h =
    one_field (head_byte k c) (flag_byte k on) (k % 256) (count_byte c) (all_bytes (key_width k) c.numbers) (flag_set k on) (list_full k on c n) 0
    ∙ ap (λ (f : Field). whole (record { place = 2; what = f } ∷ [])) (list_back k on c q n h)

-- ---- the block around a FIG

-- its 30 bytes of data
unfoldable block_data : List ℕ → List ℕ
block_data fs = take 30 (fs ++ 255 ∷ replicate 30 0)

data_length : (fs : List ℕ) → length (block_data fs) ≡ 30
unfolding block_data
data_length fs = length-take-le 30 (fs ++ 255 ∷ replicate 30 0) (omega (arith, length-append fs (255 ∷ replicate 30 0)))

block_data_law : (fs : List ℕ) → block_of fs ≡ block_data fs ++ (check_of (block_data fs) / 256) ∷ (check_of (block_data fs) % 256) ∷ []
unfolding block_of block_data
block_data_law fs = refl

-- a block is 32 bytes
pub block_length : (fs : List ℕ) → length (block_of fs) ≡ 32
block_length fs =
    let d : List ℕ = block_data fs in
    rw (block_data_law fs, length-append d ((check_of d / 256) ∷ (check_of d % 256) ∷ []), data_length fs)

-- its check is right
pub check_back : (fs : List ℕ) → check_holds (block_of fs) ≡ true
unfolding check_holds
check_back fs =
    let d : List ℕ = block_data fs in
    let hi : ℕ = check_of d / 256 in
    let lo : ℕ = check_of d % 256 in
    let n : length d ≡ 30 = data_length fs in
    let a : get_or (d ++ hi ∷ lo ∷ []) 30 0 ≡ hi = get_or_at d hi (lo ∷ []) 0 30 n in
    let next : 31 ≡ length d + 1 = omega arith in
    let b : get_or (d ++ hi ∷ lo ∷ []) 31 0 ≡ lo = ap (λ (i : ℕ). get_or (d ++ hi ∷ lo ∷ []) i 0) next ∙ get_or-append-add d (hi ∷ lo ∷ []) 1 0 in
    let c : take 30 (d ++ hi ∷ lo ∷ []) ≡ d = take_at d (hi ∷ lo ∷ []) 30 n in
    rw (block_data_law fs, a, b, c) (eq-eqb (hi * 256 + lo) (check_of d) (div-add-mod' (check_of d) 256))

-- where there is room, FF stands after the FIG
block_front : (fs : List ℕ) → length fs ≤ 29 → (tail : List ℕ) × (block_of fs ≡ fs ++ 255 ∷ tail)
unfolding block_data
block_front fs h =
    let d : List ℕ = block_data fs in
    let m : ℕ = 29 - length fs in
    let chk : List ℕ = (check_of d / 256) ∷ (check_of d % 256) ∷ [] in
    let e : 30 ≡ length fs + suc m = omega arith in
    let f : d ≡ fs ++ 255 ∷ take m (replicate 30 0) = ap (λ (n : ℕ). take n (fs ++ 255 ∷ replicate 30 0)) e ∙ take-append-add fs (255 ∷ replicate 30 0) (suc m) in
    (take m (replicate 30 0) ++ chk, block_data_law fs ∙ ap (λ (x : List ℕ). x ++ chk) f ∙ append_assoc fs (255 ∷ take m (replicate 30 0)) chk)

-- ---- the one FIG of a block

module _ (body tail : List ℕ) (some' : 0 < length body) (few : length body ≤ 28) where
  fig_there : fig_at (length body ∷ body ++ 255 ∷ tail) 0 ≡ item (record { type = 0; body = body }) (1 + length body)
  unfolding fig_at
  fig_there =
      let L : ℕ = length body in
      let m : L % 32 ≡ L = omega arith in
      let t : L / 32 ≡ 0 = omega arith in
      let e1 : eqb L 255 ≡ false = ne_eqb L 255 (omega arith) in
      let e2 : eqb L 0 ≡ false = ne_eqb L 0 (omega arith) in
      let e3 : ltb 30 (1 + L) ≡ false = le-ltb 30 (1 + L) (omega arith) in
      let e4 : take L (body ++ 255 ∷ tail) ≡ body = take_at body (255 ∷ tail) L refl in
      rw (e1, m, e2, e3, t, e4)

  fig_end : fig_at (length body ∷ body ++ 255 ∷ tail) (1 + length body) ≡ end
  unfolding fig_at
  fig_end =
      let L : ℕ = length body in
      let e1 : leb 30 (1 + L) ≡ false = lt-leb 30 (1 + L) (omega arith) in
      let e2 : get_or (L ∷ body ++ 255 ∷ tail) (1 + L) 0 ≡ 255 = get_or_at (L ∷ body) 255 tail 0 (1 + L) (omega arith) in
      rw (e1, e2)

  one_fig : figs (length body ∷ body ++ 255 ∷ tail) ≡ whole (record { place = 0; what = record { type = 0; body = body } } ∷ [])
  unfolding figs
  one_fig = walk_one 0 (fig_at (length body ∷ body ++ 255 ∷ tail)) 29 0 (1 + length body) (record { type = 0; body = body }) fig_there fig_end

-- ---- the verdict

-- the identifiers of a piece have 24 bytes at most
pub ids_few : (k n : ℕ) → n ≤ piece_most (key_width k) → n * key_width k ≤ 24
unfolding key_width width piece_most
ids_few k n h =
    cases_bool (eqb (k / 16384 % 2) 1)
    (λ e. rw e (four (rw e at h)))
    (λ e. cases_bool (eqb (k / 4096 % 2) 1) (λ f. rw (e, f) (three (rw (e, f) at h))) (λ f. rw (e, f) (two (rw (e, f) at h))))
  where
    four : n ≤ 6 → n * 4 ≤ 24
    four g = omega arith

    three : n ≤ 8 → n * 3 ≤ 24
    three g = omega arith

    two : n ≤ 12 → n * 2 ≤ 24
    two g = omega arith

field_length : (k : ℕ) (on : Bool) (c : Piece) → length (field_bytes k on c) ≡ 4 + length c.numbers * key_width k
unfolding field_bytes
field_length k on c = omega (arith, all_length (key_width k) c.numbers)

-- a FIG with its first byte has 29 bytes at most
pub fig_length : (k : ℕ) (on : Bool) (c : Piece) → length c.numbers ≤ piece_most (key_width k) → length (fig_bytes k on c) ≤ 29
unfolding fig_bytes
fig_length k on c h = omega (arith, field_length k on c, ids_few k (length c.numbers) h)

linking_back : (k : ℕ) (on : Bool) (c : Piece) → is_linking (fig_of k on c).what ≡ true
unfolding is_linking fig_of field_bytes head_byte
linking_back k on c = eq-eqb (head_byte k c % 32) 6 (head_ext k c)

-- a piece within the limits, of a key with an LSN, in a set that names nothing where P/D is 1
module _ (k named : ℕ) (c : Piece) (lsn : k % 4096 ≡ 0 → ⊥) (m : PieceMeets (key_width k) named (piece_most (key_width k)) c)
    (none' : k / 16384 % 2 ≡ 1 → named ≡ 0) where
  qualifier_there : c.qualifier ≡ 2 → ⊥
  qualifier_there h = kind_cases named c.qualifier m.kind (λ e. omega arith) (λ e g. omega arith) (λ e g. omega arith)

  qualifier_data : k / 16384 % 2 ≡ 1 → c.qualifier ≡ 0
  qualifier_data h =
      let z : named ≡ 0 = none' h in
      kind_cases named c.qualifier m.kind (λ e. e) (λ e g. absurd (omega arith)) (λ e g. absurd (omega arith))

  values_right : (on : Bool) → wrong_value (field_of k on c) ≡ false
  unfolding wrong_value field_of
  values_right on =
      let e1 : eqb (k % 4096) 0 ≡ false = ne_eqb (k % 4096) 0 lsn in
      let e2 : eqb c.qualifier 2 ≡ false = ne_eqb c.qualifier 2 qualifier_there in
      rw (e1, e2)
      (cases_bool (eqb (k / 16384 % 2) 1)
      (λ e. rw (e, eq-eqb c.qualifier 0 (qualifier_data (eqb-true (k / 16384 % 2) 1 e))))
      (λ e. rw e))

  start_begun : (on : Bool) → empty_start (field_of k on c) ≡ false
  unfolding empty_start field_of has_list is_continuation bit
  start_begun on =
      cases_bool c.more (λ e. rw e) (λ e. rw e (ne_eqb (length c.numbers) 0 (λ z. omega (arith, m.begun e))))

  figs_back : (on : Bool) → figs (block_of (fig_bytes k on c)) ≡ whole (fig_of k on c ∷ [])
  unfolding fig_bytes fig_of
  figs_back on =
      let n : length (field_bytes k on c) ≡ 4 + length c.numbers * key_width k = field_length k on c in
      let f : length (fig_bytes k on c) ≤ 29 = fig_length k on c m.few in
      let front : (tail : List ℕ) × (block_of (fig_bytes k on c) ≡ fig_bytes k on c ++ 255 ∷ tail) = block_front (fig_bytes k on c) f in
      ap figs front.1 ∙ one_fig (field_bytes k on c) front.0 (omega arith) (omega arith)

  all_fields_back : (on : Bool) → all_fields (fig_of k on c ∷ []) ≡ whole (record { place = 2; what = field_of k on c } ∷ [])
  unfolding all_fields joined
  all_fields_back on =
      let few : length c.numbers < 16 = omega (arith, m.few, most_small (key_width k)) in
      rw (linking_back k on c, fields_back k on c (kind_small named c.qualifier m.kind) few m.within)

  -- a piece's block is taken, with the piece's field alone
  pub verdict_back : (on : Bool) → verdict (block_of (fig_bytes k on c)) ≡ taken (field_of k on c ∷ [])
  unfolding verdict judge_figs judge_fields some?
  verdict_back on =
      rw (block_length (fig_bytes k on c), check_back (fig_bytes k on c), figs_back on, all_fields_back on, values_right on, start_begun on)

-- ---- the bytes of a block

big_bytes_law : (w n : ℕ) → Below 256 (big_bytes w n)
unfolding big_bytes
big_bytes_law zero n = tt
big_bytes_law (suc w) n = (omega arith, big_bytes_law w n)

all_bytes_law : (w : ℕ) (ns : List ℕ) → Below 256 (all_bytes w ns)
unfolding all_bytes
all_bytes_law w [] = tt
all_bytes_law w (n ∷ ns) = every_append (λ (b : ℕ). b < 256) (big_bytes w n) (all_bytes w ns) (big_bytes_law w n) (all_bytes_law w ns)

head_small : (k : ℕ) (c : Piece) → head_byte k c < 256
unfolding head_byte
head_small k c = omega (arith, bit_small c.more)

flag_small : (k : ℕ) (on : Bool) → flag_byte k on < 256
unfolding flag_byte
flag_small k on = omega (arith, bit_small on)

zero_bytes : (n : ℕ) → Below 256 (replicate n 0)
zero_bytes zero = tt
zero_bytes (suc n) = (omega arith, zero_bytes n)

data_bytes : (fs : List ℕ) → Below 256 fs → Below 256 (block_data fs)
unfolding block_data
data_bytes fs h =
    let P : ℕ → Type 0 = λ b. b < 256 in
    every_take P 30 (fs ++ 255 ∷ replicate 30 0) (every_append P fs (255 ∷ replicate 30 0) h (omega arith, zero_bytes 30))

-- a block around bytes is made of bytes
block_bytes : (fs : List ℕ) → Below 256 fs → Below 256 (block_of fs)
block_bytes fs h =
    let P : ℕ → Type 0 = λ b. b < 256 in
    let d : List ℕ = block_data fs in
    rw (block_data_law fs)
    (every_append P d ((check_of d / 256) ∷ (check_of d % 256) ∷ []) (data_bytes fs h)
    (omega (arith, check_small d), (omega arith, tt)))

-- a piece's block is made of bytes
pub piece_bytes : (k : ℕ) (on : Bool) (c : Piece) → c.qualifier < 4 → length c.numbers ≤ piece_most (key_width k) → Below 256 (block_of (fig_bytes k on c))
unfolding fig_bytes field_bytes head_byte flag_byte
piece_bytes k on c q n =
    block_bytes (fig_bytes k on c) (
      omega (arith, fig_length k on c n),
      (head_small k c, (flag_small k on, (omega arith, (omega (arith, most_small (key_width k)), all_bytes_law (key_width k) c.numbers)))),
    )
