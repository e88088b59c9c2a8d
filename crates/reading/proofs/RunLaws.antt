-- The loop that reads blocks: what it keeps (`Going`), and one turn of it. In order: notes as they are stored; a field more;
-- a block more, taken or refused; the end.
use Prim.Native.Nat.{ℕ, zero, suc, ◌+◌, ◌-◌, ◌/◌, ◌%◌, ◌<◌, ◌≤◌}
use native.Mathlib.Nat.{le_of_suc-le-suc, not-suc-le-zero, zero-add, add-zero}
use native.Mathlib.Numerals.{add-one}
use native.Mathlib.Omega.{arith}
use mathlib.Core.Path.{◌≡◌, refl, sym, ap, ap₂, ◌∙◌, subst}
use mathlib.Core.Bool.{Bool, true, not, false≢true}
use mathlib.Core.List.{List, [], ◌∷◌, ◌++◌, map, append-nil}
use lib.ListN.{length, get_or, take, drop, length-append, length-take}
use lib.Seq.{drop-cons, drop-drop, append_snoc, drop-length, get_or-take, get_or-drop, take_all}
use lib.Dec.{ltb}
use lib.ListN.{get_or-eq_default}
use borrow.Author.Tests.{ltb-true, ltb-false}
use Rattle.rules.specs.Arrays.{padded}
use Rattle.rules.specs.declared.Outcome.{Outcome}
use Rattle.rules.specs.declared.Outcome.TheVariants.{Done, NotABlock, CheckFails, WrongFig, WrongField, WrongValue, EmptyStart, NotHeld, ShortBuffer, WrongTable, NotASheet, NotShown, TooMuch, TooManyPieces, BadCode}
use Rattle.rules.specs.declared.Note.{Note}
use Rattle.rules.specs.declared.Note.TheVariants.{Opened}
use Rattle.rules.specs.Field.{Field as FieldOf}
use Rattle.rules.specs.Family.{step, steps, drop_open}
use Rattle.rules.specs.Collecting.{linkage, Entries, Content, with_sets, after_block, said, meets}
use Rattle.rules.specs.Block.{bit}
use Rattle.rules.specs.Outcomes.{Verdict, taken, refused, is_refused, refused_of, refusals, verdict, Answer, read_block, read_blocks, is_full, without_room, roomless_blocks, read_recording, left_over, roomless}
use Rattle.rules.proofs.Basics.{Every, cases_bool, bit_small}
use Rattle.rules.proofs.Taken.{GoodField, taken_good}
use Rattle.rules.proofs.TableRules.{Meets, table_meets_law, NumbersWithin, content_meets}
use Rattle.rules.proofs.LinkageLaws.{meets_steps, within_steps, counted_keeps, refused_keeps, refused_not_done, answer_taken, answer_refused, bytes_list, no_block_law}
use Rattle.rules.proofs.Arrays.{set_column}
use Rattle.table.specs.declared.Table.{Table}
use Rattle.table.specs.Stored.{store_table}
use Rattle.block.specs.declared.Spots.{Spots}
use Rattle.block.specs.Judged.{no_spots, no_spot}
use Rattle.block.proofs.Meaning.{SpotIs, no_field, SpotsAre}
use Rattle.reading.specs.declared.Notes.{Notes}
use Rattle.reading.specs.declared.Reply.{Reply}
use Rattle.reading.specs.declared.Run.{Run}
use Rattle.reading.specs.Steps.{store_notes, noted_as, noted_at, no_notes, is_done}
use Rattle.reading.specs.Runs.{no_reply, reply_to, reply_with, Ran, begun, counted, run_blocks, run_as, ran_as, Runs, recorded_as}

-- ---- notes as they are stored

pub no_notes_law : no_notes ≡ store_notes []
unfolding no_notes store_notes padded noted_as
no_notes_law = refl

pub note_more : (ns : List Note) (n : Note) → length ns < 14 → noted_at (store_notes ns) (length ns) n ≡ store_notes (ns ++ n ∷ [])
unfolding noted_at store_notes noted_as
note_more ns n h =
    let all = set_column noted_as 14 (length ns) (noted_as Opened) ns n refl refl refl h in
    λ i. record { notes = all i; count = sym (length-append ns (n ∷ [])) i }

-- ---- what an outcome says

-- an outcome that is done is 0
pub done_is : (o : Outcome) → is_done o ≡ true → o ≡ Done
unfolding is_done
done_is Done e = refl
done_is NotABlock e = absurd (false≢true e)
done_is CheckFails e = absurd (false≢true e)
done_is WrongFig e = absurd (false≢true e)
done_is WrongField e = absurd (false≢true e)
done_is WrongValue e = absurd (false≢true e)
done_is EmptyStart e = absurd (false≢true e)
done_is NotHeld e = absurd (false≢true e)
done_is ShortBuffer e = absurd (false≢true e)
done_is WrongTable e = absurd (false≢true e)
done_is NotASheet e = absurd (false≢true e)
done_is NotShown e = absurd (false≢true e)
done_is TooMuch e = absurd (false≢true e)
done_is TooManyPieces e = absurd (false≢true e)
done_is BadCode e = absurd (false≢true e)

-- a refused block's is not
refused_done : (fib : List ℕ) (o : Outcome) (p : ℕ) → verdict fib ≡ refused o p → bit (not (is_done o)) ≡ bit true
refused_done fib o p v = cases_bool (is_done o) (λ y. absurd (refused_not_done fib o p v (done_is o y))) (λ n. ap (λ (x : Bool). bit (not x)) n)

-- ---- what the loop keeps

-- what is said of the present block, which is counted, with these notes so far and no field to come, or with these fields still to come
abbrev spoken : Reply → List Note → Content → Ran
spoken r ns c = record { answer = record { outcome = r.outcome; place = r.place; notes = ns; left = c }; full = r.full; refused = r.refused }

unfoldable pub resumed : Reply → List Note → Content → List FieldOf → Ran
resumed r ns c gs =
    let s = steps linkage c.sets (map (said c.blocks) gs) in
    record {
      answer = record { outcome = r.outcome; place = r.place; notes = ns ++ s.1; left = with_sets c s.0 };
      full = r.full + without_room s.1;
      refused = r.refused;
    }

-- the table stores a content that meets the rules; the spots place the fields of the present block; the notes are those of
-- the fields passed, and not more starts found no room, nor were more blocks refused, than bytes are passed; what is left to do makes the whole
pub record Going (bytes : List ℕ) (t₀ t : Table) (reply : Reply) (spots : Spots) (from at i : ℕ) : Type 0 where
  pub first : Content
  pub first_meets : meets first ≡ true
  pub first_stored : t₀ ≡ store_table first
  pub now' : Content
  pub now_meets : meets now' ≡ true
  pub stored : t ≡ store_table now'
  pub fields : List FieldOf
  pub placed : SpotsAre (take 32 (drop from bytes)) spots fields
  pub good : Every GoodField fields
  pub inside : 0 < length fields → from + 32 ≤ length bytes
  pub noted : List Note
  pub notes_are : reply.notes ≡ store_notes noted
  pub as_many : length noted ≡ i
  pub within : i ≤ length fields
  pub at_most : at ≤ length bytes
  pub room : reply.full + (length fields - i) ≤ at
  pub fewer : reply.refused ≤ at
  pub answer : run_blocks (length bytes / 32) (begun first) bytes ≡ run_blocks ((length bytes - at) / 32) (resumed reply noted now' (drop i fields)) (drop at bytes)

placed_none : (fib : List ℕ) (spots : Spots) → spots.count ≡ 0 → SpotsAre fib spots []
placed_none fib spots z = record { count = z; few = omega arith; each = λ i h. absurd (not-suc-le-zero h) }

resumed_none : (r : Reply) (ns : List Note) (c : Content) → resumed r ns c [] ≡ spoken r ns c
unfolding resumed steps without_room
resumed_none r ns c =
    ap₂ (λ (m : List Note) (k : ℕ). record { answer = record { outcome = r.outcome; place = r.place; notes = m; left = c }; full = k; refused = r.refused }) (append-nil ns) (add-zero r.full)

pub going_first : (bytes : List ℕ) (t : Table) (reply : Reply) (spots : Spots) (c : Content) → meets c ≡ true → t ≡ store_table c → reply ≡ no_reply → spots ≡ no_spots
    → Going bytes t t reply spots 0 0 0
unfolding no_spots no_reply begun
going_first bytes t reply spots c m e n s =
    record {
      first = c;
      first_meets = m;
      first_stored = e;
      now' = c;
      now_meets = m;
      stored = e;
      fields = [];
      placed = placed_none _ spots (ap (λ (x : Spots). x.count) s);
      good = tt;
      inside = λ h. absurd (not-suc-le-zero h);
      noted = [];
      notes_are = ap (λ (x : Reply). x.notes) n ∙ no_notes_law;
      as_many = refl;
      within = omega arith;
      at_most = omega arith;
      room = omega (arith, ap (λ (x : Reply). x.full) n);
      fewer = omega (arith, ap (λ (x : Reply). x.refused) n);
      answer = ap₂ (λ (k : ℕ) (a : Ran). run_blocks k a bytes) (ap (λ (k : ℕ). k / 32) whole) (sym (ap (λ (x : Reply). resumed x [] c []) n ∙ resumed_none no_reply [] c));
    }
  where
    whole : length bytes ≡ length bytes - 0
    whole = omega arith

-- ---- a field more

every_get : {A : Type 0} (P : A → Type 0) (d : A) (xs : List A) (i : ℕ) → Every P xs → i < length xs → P (get_or xs i d)
every_get P d [] i e h = absurd (not-suc-le-zero h)
every_get P d (x ∷ xs) zero e h = e.0
every_get P d (x ∷ xs) (suc i) e h = every_get P d xs i e.1 (le_of_suc-le-suc h)

resumed_step : (r : Reply) (ns : List Note) (i : ℕ) (c : Content) (c' : Entries) (n : Note) (g : FieldOf) (gs : List FieldOf)
    → step linkage c.sets (said c.blocks g) ≡ (c', n) → resumed r ns c (g ∷ gs) ≡ resumed (reply_with r i n) (ns ++ n ∷ []) (with_sets c c') gs
unfolding resumed reply_with steps without_room
resumed_step r ns i c c' n g gs e =
    let s = steps linkage c' (map (said c.blocks) gs) in
    let room : r.full + (bit (is_full n) + without_room s.1) ≡ r.full + bit (is_full n) + without_room s.1 = omega arith in
    ap (λ (x : Entries × Note).
    let y = steps linkage x.0 (map (said c.blocks) gs) in
    record {
      answer = record { outcome = r.outcome; place = r.place; notes = ns ++ x.1 ∷ y.1; left = with_sets c y.0 };
      full = r.full + (bit (is_full x.1) + without_room y.1);
      refused = r.refused;
    }) e
    ∙ ap₂ (λ (m : List Note) (k : ℕ). record { answer = record { outcome = r.outcome; place = r.place; notes = m; left = with_sets c s.0 }; full = k; refused = r.refused })
    (sym (append_snoc ns n s.1)) room

pub step_meets : (c : Content) (c' : Entries) (n : Note) (g : FieldOf) → GoodField g → meets c ≡ true → step linkage c.sets (said c.blocks g) ≡ (c', n)
    → meets (with_sets c c') ≡ true
unfolding steps
step_meets c c' n g good m e =
    let r = (content_meets c).0 m in
    let s = ap (λ (x : Entries × Note). x.0) e in
    (content_meets (with_sets c c')).1
    (record {
      sets = (table_meets_law c').1 (subst Meets s (meets_steps c.blocks c.sets (g ∷ []) (good, tt) ((table_meets_law c.sets).0 r.sets)));
      within = subst (NumbersWithin c.blocks) s (within_steps c.blocks c.sets (g ∷ []) r.within);
      most = r.most;
    })

-- bytes of a part
pub part_bytes : (n at : ℕ) (bytes : List ℕ) → ((j : ℕ) → get_or bytes j 0 < 256) → (j : ℕ) → get_or (take n (drop at bytes)) j 0 < 256
part_bytes n at bytes b j =
    cases_bool (ltb j n)
    (λ h. rw (get_or-take n (drop at bytes) j 0 (ltb-true j n h), get_or-drop at bytes j 0) (b (at + j)))
    (λ h. rw (get_or-eq_default (take n (drop at bytes)) 0 {n = j} (rw (length-take n (drop at bytes)) (omega (arith, ltb-false j n h)))) (omega arith))

module _ (bytes : List ℕ) (t₀ t : Table) (reply : Reply) (spots : Spots) (from at i : ℕ) (G : Going bytes t₀ t reply spots from at i) where
  -- the present field
  pub field_now : FieldOf
  field_now = get_or G.fields i no_field

  pub more_fields : i < spots.count → i < length G.fields
  more_fields h = subst (λ (n : ℕ). i < n) G.placed.count h

  pub spot_now : i < spots.count → SpotIs (take 32 (drop from bytes)) (get_or spots.spots i no_spot) field_now
  unfolding field_now
  spot_now h = G.placed.each i (more_fields h)

  pub good_now : i < spots.count → GoodField field_now
  unfolding field_now
  good_now h = every_get GoodField no_field G.fields i G.good (more_fields h)

  pub few_fields : i < spots.count → i < 14
  few_fields h = omega (arith, G.placed.few, more_fields h)

  -- what counts one more start cannot overflow
  pub few_full : i < spots.count → reply.full < length bytes
  few_full h = omega (arith, G.room, G.at_most, more_fields h)

  pub going_next : i < spots.count → (t' : Table) (reply' : Reply) (n : Note) (c' : Entries) → step linkage G.now'.sets (said G.now'.blocks field_now) ≡ (c', n)
      → t' ≡ store_table (with_sets G.now' c') → reply' ≡ reply_with reply i n → Going bytes t₀ t' reply' spots from at (i + 1)
  unfolding field_now reply_with
  going_next h t' reply' n c' e s q =
      record {
        first = G.first;
        first_meets = G.first_meets;
        first_stored = G.first_stored;
        now' = with_sets G.now' c';
        now_meets = step_meets G.now' c' n (get_or G.fields i no_field) (good_now h) G.now_meets e;
        stored = s;
        fields = G.fields;
        placed = G.placed;
        good = G.good;
        inside = G.inside;
        noted = G.noted ++ n ∷ [];
        notes_are = ap (λ (x : Reply). x.notes) q ∙ ap₂ (λ (m : Notes) (j : ℕ). noted_at m j n) G.notes_are (sym G.as_many) ∙ note_more G.noted n (rw G.as_many (few_fields h));
        as_many = length-append G.noted (n ∷ []) ∙ omega (arith, G.as_many);
        within = omega (arith, more_fields h);
        at_most = G.at_most;
        room = omega (arith, G.room, more_fields h, ap (λ (x : Reply). x.full) q, bit_small (is_full n));
        fewer = omega (arith, G.fewer, ap (λ (x : Reply). x.refused) q);
        answer =
            G.answer
            ∙ ap (λ (a : Ran). run_blocks ((length bytes - at) / 32) a (drop at bytes))
            (ap (resumed reply G.noted G.now') (drop-cons G.fields i no_field (more_fields h))
            ∙ resumed_step reply G.noted i G.now' c' n (get_or G.fields i no_field) (drop (suc i) G.fields) e
            ∙ ap₂ (λ (x : Reply) (k : ℕ). resumed x (G.noted ++ n ∷ []) (with_sets G.now' c') (drop k G.fields)) (sym q) (sym (add-one i)));
      }

  -- ---- a block more

  no_fields : spots.count ≤ i → drop i G.fields ≡ []
  no_fields h =
      let e : i ≡ length G.fields = omega (arith, G.placed.count, G.within) in
      ap (λ (k : ℕ). drop k G.fields) e ∙ drop-length G.fields

  answer_now : spots.count ≤ i
      → run_blocks (length bytes / 32) (begun G.first) bytes ≡ run_blocks ((length bytes - at) / 32) (spoken reply G.noted G.now') (drop at bytes)
  answer_now h =
      G.answer ∙ ap (λ (a : Ran). run_blocks ((length bytes - at) / 32) a (drop at bytes)) (ap (resumed reply G.noted G.now') (no_fields h) ∙ resumed_none reply G.noted G.now')

  all_passed : spots.count ≤ i → reply.full ≤ at
  all_passed h = omega (arith, G.room)

  -- the next block is answered so
  answer_block : spots.count ≤ i → 32 ≤ length bytes - at → (v : Verdict) → verdict (take 32 (drop at bytes)) ≡ v → (a : Answer) → read_block G.now' (take 32 (drop at bytes)) ≡ a
      → run_blocks (length bytes / 32) (begun G.first) bytes ≡ run_blocks ((length bytes - (at + 32)) / 32) (counted reply.full reply.refused v a) (drop (at + 32) bytes)
  unfolding run_blocks
  answer_block h l v u a q =
      let e : (length bytes - at) / 32 ≡ suc ((length bytes - (at + 32)) / 32) = omega arith in
      answer_now h
      ∙ ap (λ (n : ℕ). run_blocks n (spoken reply G.noted G.now') (drop at bytes)) e
      ∙ (λ j. run_blocks ((length bytes - (at + 32)) / 32) (counted reply.full reply.refused (u j) (q j)) (drop-drop 32 at bytes j))

  pub going_taken : spots.count ≤ i → 32 ≤ length bytes - at → ((j : ℕ) → get_or bytes j 0 < 256) → (fs : List FieldOf) (t' : Table) (spots' : Spots) (reply' : Reply)
      → verdict (take 32 (drop at bytes)) ≡ taken fs → SpotsAre (take 32 (drop at bytes)) spots' fs → reply' ≡ reply_to reply Done 0
      → t' ≡ store_table (after_block G.now' G.now'.sets)
      → Going bytes t₀ t' reply' spots' at (at + 32) 0
  unfolding resumed reply_to is_done is_refused
  going_taken h l b fs t' spots' reply' v p n s =
      let left = after_block G.now' G.now'.sets in
      let none : bit (not (is_done Done)) ≡ 0 = unfold bit in refl in
      record {
        first = G.first;
        first_meets = G.first_meets;
        first_stored = G.first_stored;
        now' = left;
        now_meets = counted_keeps G.now' G.now_meets;
        stored = s;
        fields = fs;
        placed = p;
        good = taken_good (take 32 (drop at bytes)) fs (bytes_list (take 32 (drop at bytes)) (part_bytes 32 at bytes b)) v;
        inside = λ _. omega arith;
        noted = [];
        notes_are = ap (λ (x : Reply). x.notes) n ∙ no_notes_law;
        as_many = refl;
        within = omega arith;
        at_most = omega arith;
        room = omega (arith, all_passed h, p.few, ap (λ (x : Reply). x.full) n);
        fewer = omega (arith, G.fewer, ap (λ (x : Reply). x.refused) n, none);
        answer =
            answer_block h l (taken fs) v _ (answer_taken G.now' (take 32 (drop at bytes)) fs v)
            ∙ ap (λ (x : Reply). run_blocks ((length bytes - (at + 32)) / 32) (resumed x [] left fs) (drop (at + 32) bytes)) (sym n);
      }

  pub going_refused : spots.count ≤ i → 32 ≤ length bytes - at → (t' : Table) (spots' : Spots) (reply' : Reply) (o : Outcome) (p : ℕ)
      → verdict (take 32 (drop at bytes)) ≡ refused o p → reply' ≡ reply_to reply o p → spots'.count ≡ 0
      → t' ≡ store_table (after_block G.now' (drop_open linkage G.now'.sets))
      → Going bytes t₀ t' reply' spots' at (at + 32) 0
  unfolding reply_to without_room is_refused
  going_refused h l t' spots' reply' o p v n z s =
      let left = after_block G.now' (drop_open linkage G.now'.sets) in
      let again = refused_done (take 32 (drop at bytes)) o p v in
      record {
        first = G.first;
        first_meets = G.first_meets;
        first_stored = G.first_stored;
        now' = left;
        now_meets = refused_keeps G.now' G.now_meets;
        stored = s;
        fields = [];
        placed = placed_none _ spots' z;
        good = tt;
        inside = λ q. absurd (not-suc-le-zero q);
        noted = [];
        notes_are = ap (λ (x : Reply). x.notes) n ∙ no_notes_law;
        as_many = refl;
        within = omega arith;
        at_most = omega arith;
        room = omega (arith, all_passed h, ap (λ (x : Reply). x.full) n);
        fewer = omega (arith, G.fewer, ap (λ (x : Reply). x.refused) n, bit_small (not (is_done o)));
        answer =
            answer_block h l (refused o p) v _ (answer_refused G.now' (take 32 (drop at bytes)) o p v)
            ∙ ap (λ (a : Ran). run_blocks ((length bytes - (at + 32)) / 32) a (drop (at + 32) bytes))
            (ap₂ (λ (k m : ℕ). record { answer = record { outcome = o; place = p; notes = []; left = left }; full = k; refused = reply.refused + m }) (add-zero reply.full) (sym again)
            ∙ ap (λ (x : Reply). spoken x [] left) (sym n) ∙ sym (resumed_none reply' [] left));
      }

  -- ---- the end

  pub going_end : spots.count ≤ i → length bytes - at < 32 → (u : Table) → u ≡ t → Runs t₀ bytes (record { reply = reply; table = u })
  unfolding Runs ran_as run_blocks
  going_end h l u q =
      let e : (length bytes - at) / 32 ≡ 0 = omega arith in
      let whole = answer_now h ∙ ap (λ (n : ℕ). run_blocks n (spoken reply G.noted G.now') (drop at bytes)) e in (
        G.first,
        G.first_meets,
        G.first_stored,
        (λ j. record { reply = record { outcome = reply.outcome; place = reply.place; full = reply.full; refused = reply.refused; notes = G.notes_are j }; table = (q ∙ G.stored) j })
            ∙ ap ran_as (sym whole),
      )

-- ---- one block, and a whole recording

pub run_left : (n : ℕ) (a : Ran) (bytes : List ℕ) → (run_blocks n a bytes).answer.left ≡ read_blocks n a.answer.left bytes
unfolding run_blocks read_blocks
run_left zero a bytes = refl
run_left (suc n) a bytes = run_left n (counted a.full a.refused (verdict (take 32 bytes)) (read_block a.answer.left (take 32 bytes))) (drop 32 bytes)

pub run_full : (n : ℕ) (a : Ran) (bytes : List ℕ) → (run_blocks n a bytes).full ≡ a.full + roomless_blocks n a.answer.left bytes
unfolding run_blocks roomless_blocks
run_full zero a bytes = sym (add-zero a.full)
run_full (suc n) a bytes =
    let b = read_block a.answer.left (take 32 bytes) in
    let x = without_room b.notes in
    let y = roomless_blocks n b.left (drop 32 bytes) in
    let sum : a.full + x + y ≡ a.full + (x + y) = omega arith in
    run_full n (counted a.full a.refused (verdict (take 32 bytes)) b) (drop 32 bytes) ∙ sum

pub run_refused : (n : ℕ) (a : Ran) (bytes : List ℕ) → (run_blocks n a bytes).refused ≡ a.refused + refused_of n bytes
unfolding run_blocks refused_of
run_refused zero a bytes = sym (add-zero a.refused)
run_refused (suc n) a bytes =
    let x = bit (is_refused (verdict (take 32 bytes))) in
    let y = refused_of n (drop 32 bytes) in
    let sum : a.refused + x + y ≡ a.refused + (x + y) = omega arith in
    run_refused n (counted a.full a.refused (verdict (take 32 bytes)) (read_block a.answer.left (take 32 bytes))) (drop 32 bytes) ∙ sum

pub run_one : (c : Content) (fib : List ℕ) → length fib ≡ 32 → (run_blocks (length fib / 32) (begun c) fib).answer ≡ read_block c fib
unfolding run_blocks begun
run_one c fib l =
    let e : length fib / 32 ≡ 1 = omega arith in
    ap (λ (n : ℕ). (run_blocks n (begun c) fib).answer) e ∙ ap (read_block c) (take_all 32 fib (omega arith))

-- what a run says of its last block
pub run_answers : (c : Content) (fib : List ℕ) (r : Run) → length fib ≡ 32 → r ≡ ran_as (run_blocks (length fib / 32) (begun c) fib)
    → record { outcome = r.reply.outcome; place = r.reply.place; notes = r.reply.notes; table = r.table } ≡ run_as (read_block c fib)
unfolding ran_as run_as
run_answers c fib r l e =
    ap (λ (x : Run). record { outcome = x.reply.outcome; place = x.reply.place; notes = x.reply.notes; table = x.table }) e ∙ ap run_as (run_one c fib l)

pub not_a_block : (c : Content) (t : Table) (fib : List ℕ) (ns : Notes) → t ≡ store_table c → (length fib ≡ 32 → ⊥) → ns ≡ no_notes
    → record { outcome = NotABlock; place = 0; notes = ns; table = t } ≡ run_as (read_block c fib)
unfolding run_as
not_a_block c t fib ns e n z =
    (λ i. record { outcome = NotABlock; place = 0; notes = (z ∙ no_notes_law) i; table = e i }) ∙ ap run_as (sym (no_block_law c fib n))

pub recorded : (c : Content) (bytes : List ℕ) (r : Run) → r ≡ ran_as (run_blocks (length bytes / 32) (begun c) bytes)
    → record { outcome = Done; rest = length bytes % 32; full = r.reply.full; refused = r.reply.refused; table = r.table } ≡ recorded_as c bytes
unfolding recorded_as left_over refusals roomless read_recording ran_as begun
recorded c bytes r e =
    let full = ap (λ (x : Run). x.reply.full) e ∙ run_full (length bytes / 32) (begun c) bytes ∙ zero-add (roomless_blocks (length bytes / 32) c bytes) in
    let lost = ap (λ (x : Run). x.reply.refused) e ∙ run_refused (length bytes / 32) (begun c) bytes ∙ zero-add (refused_of (length bytes / 32) bytes) in
    let left = ap (λ (x : Run). x.table) e ∙ ap (λ (d : Content). store_table d) (run_left (length bytes / 32) (begun c) bytes) in
    λ i. record { outcome = Done; rest = length bytes % 32; full = full i; refused = lost i; table = left i }
