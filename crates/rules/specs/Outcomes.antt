-- Numbered outcomes (document 01): each one's number, the order of testing, and what is left.
-- That a given table meets the rules in its one stored form is tested first of all, where the table is stored (crate table).
use Rattle.std.specs.Prelude.{ℕ, zero, suc, ◌+◌, ◌/◌, ◌%◌, Bool, true, false, cond, ◌||◌, List, [], ◌∷◌, ◌++◌, map, length, take, drop, ltb, eqb}
use Rattle.std.proofs.Math.Option.{Option, none, some}
use Rattle.rules.specs.declared.Outcome.{Outcome}
use Rattle.rules.specs.declared.Outcome.TheVariants.{Done, NotABlock, CheckFails, WrongFig, WrongField, WrongValue, EmptyStart, NotHeld, ShortBuffer, WrongTable, NotASheet, NotShown, TooMuch, TooManyPieces, BadCode}
use Rattle.rules.specs.declared.Note.{Note}
use Rattle.rules.specs.declared.Note.TheVariants.{Opened, ShownAndOpened, Added, NoOpenList, Full, TooLong, StateOnly, UnknownKey, Dropped}
use Rattle.rules.specs.Block.{bit, Placed, what_of, Walk, whole, broken, Fig, figs, check_holds}
use Rattle.rules.specs.Field.{Field, is_linking, fields_of, wrong_value, empty_start, number_in, kind_in}
use Rattle.rules.specs.Family.{steps, drop_open, forget, find}
use Rattle.rules.specs.Collecting.{linkage, IdSet, Held, Content, with_sets, next_block, after_block, said}

-- the number of an outcome in document 01
unfoldable pub number_of : Outcome → ℕ
number_of Done = 0
number_of NotABlock = 1
number_of CheckFails = 2
number_of WrongFig = 3
number_of WrongField = 4
number_of WrongValue = 5
number_of EmptyStart = 6
number_of NotHeld = 7
number_of ShortBuffer = 8
number_of WrongTable = 9
number_of NotASheet = 10
number_of NotShown = 11
number_of TooMuch = 12
number_of TooManyPieces = 13
number_of BadCode = 14

-- the number of a note, in the order in which document 01 names them; 9 is document 02's and waits for its request
unfoldable pub note_number : Note → ℕ
note_number Opened = 1
note_number ShownAndOpened = 2
note_number Added = 3
note_number NoOpenList = 4
note_number Full = 5
note_number TooLong = 6
note_number StateOnly = 7
note_number UnknownKey = 8
note_number Dropped = 9

-- ---- what is in a block: 1 to 6 in that order, each over the whole block before the next

-- a block is taken, with its fields, or refused for what is in it, with the place where (document 02, R-1: a place is counted from 0
-- in the block); or it is no block
pub data Verdict : Type 0 where
  taken : List Field → Verdict
  refused : Outcome → ℕ → Verdict
  no_block : Verdict

-- two walks, one after the other
unfoldable pub joined : {A : Type 0} → Walk A → Walk A → Walk A
joined (whole xs) (whole ys) = whole (xs ++ ys)
joined (whole xs) (broken p) = broken p
joined (broken p) rest = broken p

-- the fields of all linking FIGs, in order; the other FIGs are stepped over
unfoldable pub all_fields : List (Placed Fig) → Walk (Placed Field)
all_fields [] = whole []
all_fields (fig ∷ rest) = cond (is_linking fig.what) (joined (fields_of fig) (all_fields rest)) (all_fields rest)

unfoldable pub some? : (Field → Bool) → List (Placed Field) → Bool
some? p [] = false
some? p (f ∷ fs) = p f.what || some? p fs

-- the place of the first field that has a fault
unfoldable pub first_place : (Field → Bool) → List (Placed Field) → ℕ
first_place p [] = 0
first_place p (f ∷ fs) = cond (p f.what) f.place (first_place p fs)

-- 5, then 6: the place is that of the first field at fault within the class answered
unfoldable pub judge_fields : Walk (Placed Field) → Verdict
judge_fields (broken p) = refused WrongField p
judge_fields (whole fs) =
    cond (some? wrong_value fs) (refused WrongValue (first_place wrong_value fs))
    (cond (some? empty_start fs) (refused EmptyStart (first_place empty_start fs))
    (taken (map what_of fs)))

-- 4, then those
unfoldable pub judge_figs : Walk (Placed Fig) → Verdict
judge_figs (broken p) = refused WrongFig p
judge_figs (whole gs) = judge_fields (all_fields gs)

-- 1, 2, 3, then those
unfoldable pub verdict : List ℕ → Verdict
verdict fib =
    cond (eqb (length fib) 32)
    (cond (check_holds fib) (judge_figs (figs fib)) (refused CheckFails 0))
    no_block

-- a block is refused
unfoldable pub is_refused : Verdict → Bool
is_refused (taken fs) = false
is_refused (refused o place) = true
is_refused no_block = false

-- ---- reading a block

-- the answer to a block: its outcome, the place where a refused block broke and else 0, one note a field where it is taken, and
-- what the table then holds
pub record Answer : Type 0 where
  pub outcome : Outcome
  pub place : ℕ
  pub notes : List Note
  pub left : Content

-- a block is counted, taken or refused, and its fields carry its number; a refused one leaves everything else but the open lists. What is
-- no block leaves all as it is
unfoldable pub answer_to : Content → Verdict → Answer
answer_to t (taken fs) =
    let r = steps linkage t.sets (map (said (next_block t.blocks)) fs) in
    record { outcome = Done; place = 0; notes = r.1; left = after_block t r.0 }
answer_to t (refused o p) = record { outcome = o; place = p; notes = []; left = after_block t (drop_open linkage t.sets) }
answer_to t no_block = record { outcome = NotABlock; place = 0; notes = []; left = t }

unfoldable pub read_block : Content → List ℕ → Answer
read_block t fib = answer_to t (verdict fib)

-- the first n blocks of a recording, in order
unfoldable pub read_blocks : ℕ → Content → List ℕ → Content
read_blocks zero t bytes = t
read_blocks (suc n) t bytes = read_blocks n (read_block t (take 32 bytes)).left (drop 32 bytes)

-- a start found no room: its note says so
unfoldable pub is_full : Note → Bool
is_full Opened = false
is_full ShownAndOpened = false
is_full Added = false
is_full NoOpenList = false
is_full Full = true
is_full TooLong = false
is_full StateOnly = false
is_full UnknownKey = false
is_full Dropped = false

-- how many of these notes say so
unfoldable pub without_room : List Note → ℕ
without_room [] = 0
without_room (n ∷ ns) = bit (is_full n) + without_room ns

-- the starts that found no room in the first n blocks
unfoldable pub roomless_blocks : ℕ → Content → List ℕ → ℕ
roomless_blocks zero t bytes = 0
roomless_blocks (suc n) t bytes =
    let a = read_block t (take 32 bytes) in
    without_room a.notes + roomless_blocks n a.left (drop 32 bytes)

-- how many of the first n blocks are refused
unfoldable pub refused_of : ℕ → List ℕ → ℕ
refused_of zero bytes = 0
refused_of (suc n) bytes = bit (is_refused (verdict (take 32 bytes))) + refused_of n (drop 32 bytes)

-- a recording: its whole blocks; the bytes left over are no block
unfoldable pub read_recording : Content → List ℕ → Content
read_recording t bytes = read_blocks (length bytes / 32) t bytes

unfoldable pub left_over : List ℕ → ℕ
left_over bytes = length bytes % 32

-- how many of its blocks are refused
unfoldable pub refusals : List ℕ → ℕ
refusals bytes = refused_of (length bytes / 32) bytes

-- and how many of its starts found no room
unfoldable pub roomless : Content → List ℕ → ℕ
roomless t bytes = roomless_blocks (length bytes / 32) t bytes

-- ---- forgetting, copying out: 7, 11, 8 in that order

unfoldable pub held_or : Option Held → Outcome → Outcome
held_or none o = NotHeld
held_or (some e) o = o

unfoldable pub forget_outcome : ℕ → Content → Outcome
forget_outcome k t = held_or (find linkage k t.sets) Done

-- a key forgotten
unfoldable pub forgotten : ℕ → Content → Content
forgotten k t = with_sets t (forget linkage k t.sets)

-- a set copied out: its key, on or off, named kinds, the number of the block at which it was last shown and how many identifiers, with both
-- buffers as they are then
pub record Copied : Type 0 where
  pub outcome : Outcome
  pub key : ℕ
  pub on : Bool
  pub named : ℕ
  pub confirmed : ℕ
  pub count : ℕ
  pub numbers : List ℕ
  pub kinds : List ℕ

unfoldable pub not_copied : Outcome → List ℕ → List ℕ → Copied
not_copied o ns ks = record { outcome = o; key = 0; on = false; named = 0; confirmed = 0; count = 0; numbers = ns; kinds = ks }

-- later places stay as they were
unfoldable pub overwritten : List ℕ → List ℕ → List ℕ
overwritten new old = new ++ drop (length new) old

unfoldable pub copy_set : Held → Option IdSet → List ℕ → List ℕ → Copied
copy_set e none ns ks = not_copied NotShown ns ks
copy_set e (some l) ns ks =
    cond (ltb (length ns) (length l.items) || ltb (length ks) (length l.items))
    (not_copied ShortBuffer ns ks)
    (record {
      outcome = Done;
      key = e.key;
      on = e.state;
      named = l.named;
      confirmed = e.stamp;
      count = length l.items;
      numbers = overwritten (map number_in l.items) ns;
      kinds = overwritten (map kind_in l.items) ks;
    })

unfoldable pub copy_held : Option Held → List ℕ → List ℕ → Copied
copy_held none ns ks = not_copied NotHeld ns ks
copy_held (some e) ns ks = copy_set e e.shown ns ks

unfoldable pub copy_out : ℕ → Content → List ℕ → List ℕ → Copied
copy_out k t ns ks = copy_held (find linkage k t.sets) ns ks
