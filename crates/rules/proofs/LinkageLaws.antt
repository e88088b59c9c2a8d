-- The laws of collecting for linkage sets. In this order: names of two lists together; a field of a taken block brings lists that
-- meet the table rules; numbers and the count; so reading blocks of bytes and forgetting keep them; refused blocks; outcomes; recordings.
use Prim.Native.Nat.{ℕ, zero, suc, ◌+◌, ◌*◌, ◌/◌, ◌%◌, ◌^◌, ◌≤◌, ◌<◌}
use native.Mathlib.Omega.{arith}
use mathlib.Core.Path.{◌≡◌, refl, sym, ◌∙◌, ap, ap₂, subst}
use mathlib.Core.Bool.{Bool, true, false, cond}
use mathlib.Core.List.{List, [], ◌∷◌, ◌++◌, map}
use lib.ListN.{length, get_or, take, drop, length-append, length-drop, length-map}
use lib.Seq.{take-append-le, drop-append-le}
use lib.Dec.{ltb, eqb}
use borrow.Author.Tests.{ltb-true, eqb-true, lt-ltb, eq-eqb, ne_eqb}
use Rattle.rules.specs.declared.Outcome.{Outcome}
use Rattle.rules.specs.declared.Outcome.TheVariants.{Done, NotABlock}
use Rattle.rules.specs.Block.{Placed, Walk, whole, broken, Fig, figs, check_holds}
use Rattle.rules.specs.Field.{Field, key_of, Pair, pair, pairs_of, start_pairs, first_kind, named_by, has_list, is_continuation, width, dab, rds, drm, wrong_value, empty_start}
use Rattle.rules.specs.Family.{start, continuation, no_list, added_all, opening, extended, entry_with, steps, closed, drop_open, forget}
use Rattle.rules.specs.Collecting.{join_names, linkage, IdSet, Held, Entries, Content, linkage_rules, next_block, after_block, brings, act_of, said, key_width, not_empty, oe_of, first_of, may_begin, begins_right, kind_named, names_meet, number_meets, meets, most_ids, most_blocks}
use Rattle.rules.specs.Outcomes.{number_of, Verdict, taken, refused, no_block, judge_fields, judge_figs, verdict, Answer, answer_to, read_block, read_blocks, read_recording, left_over, forgotten, all_fields, some?, first_place}
use Rattle.rules.proofs.Basics.{cases_bool, true-false, cond_cases, cond_both, Every, every_imp, every_map, every_from, every_take, every_drop}
use Rattle.rules.proofs.FamilyLaws.{Brings, Keeps, different_added_all, added_all_first, opening_first, length_added_all, every_added_all, every_steps, every_drop_open, every_forget, steps_notes}
use Rattle.rules.proofs.FamilyRules.{FieldMeets, stamp_keeps, table_steps, table_drop_open, table_forget}
use Rattle.rules.proofs.TableRules.{lawful, dab_named, names_small, first_again, PairMeets, SetMeets, KeyMeets, meaning, Meets, table_meets_law, NumbersWithin, content_meets, join_mod, join_div, join_zero, kind_cases}
use Rattle.rules.proofs.Taken.{Bytes, FieldBits, GoodField, taken_good, taken_few}

-- ---- names of two lists together

pub join_below : (a b : ℕ) → a < 4 → b < 4 → join_names a b < 4
unfolding join_names
join_below a b p q = omega arith

-- a kind that one of them names
pub named_through : (a c k : ℕ) → (a % 2 ≡ 1 → c % 2 ≡ 1) → (a / 2 ≡ 1 → c / 2 ≡ 1) → kind_named a k ≡ true → kind_named c k ≡ true
unfolding kind_named
named_through a c k low high h =
    kind_cases a k h (λ z. rw z refl) (λ z m. rw (z, eq-eqb (c % 2) 1 (low m))) (λ z m. rw (z, eq-eqb (c / 2) 1 (high m)))

pub named_left : (a b k : ℕ) → a < 4 → b < 4 → kind_named a k ≡ true → kind_named (join_names a b) k ≡ true
named_left a b k p q = named_through a (join_names a b) k (λ h. omega (arith, join_mod a b)) (λ h. omega (arith, join_div a b))

pub named_right : (a b k : ℕ) → a < 4 → b < 4 → kind_named b k ≡ true → kind_named (join_names a b) k ≡ true
named_right a b k p q = named_through b (join_names a b) k (λ h. omega (arith, join_mod a b)) (λ h. omega (arith, join_div a b))

-- a kind is among those that it names itself
pub own_named : (q : ℕ) → q < 4 → (q ≡ 2 → ⊥) → kind_named (named_by q) q ≡ true
unfolding kind_named named_by
own_named zero h r = refl
own_named (suc zero) h r = refl
own_named (suc (suc zero)) h r = absurd (r refl)
own_named (suc (suc (suc zero))) h r = refl
own_named (suc (suc (suc (suc n)))) h r = absurd (omega arith)

pub named_by_below : (q : ℕ) → named_by q < 4
unfolding named_by
named_by_below q =
    cond_both (λ (n : ℕ). n < 4) (eqb q rds) 1 (cond (eqb q drm) 2 0) (omega arith)
    (cond_both (λ (n : ℕ). n < 4) (eqb q drm) 2 0 (omega arith) (omega arith))

-- the names that a key allows
pub names_join : (k a b : ℕ) → names_meet k a ≡ true → names_meet k b ≡ true → names_meet k (join_names a b) ≡ true
unfolding names_meet
names_join k a b =
    cases_bool (eqb (k / 16384 % 2) 1)
    (λ d. rw d (λ p q. eq-eqb (join_names a b) 0 (ap₂ join_names (eqb-true a 0 p) (eqb-true b 0 q) ∙ join_zero 0)))
    (λ d. rw d (λ p q. lt-ltb (join_names a b) 4 (join_below a b (ltb-true a 4 p) (ltb-true b 4 q))))

pub names_field : (k q : ℕ) → (k / 16384 % 2 ≡ 1 → q ≡ 0) → names_meet k (named_by q) ≡ true
unfolding names_meet
names_field k q h =
    cond_cases (λ (b : Bool). b ≡ true) (eqb (k / 16384 % 2) 1) (eqb (named_by q) 0) (ltb (named_by q) 4)
    (λ d. rw (h (eqb-true (k / 16384 % 2) 1 d)) (unfold named_by in refl))
    (λ d. lt-ltb (named_by q) 4 (named_by_below q))

-- ---- what a field of a taken block brings

-- its key
pub field_key : (f : Field) → GoodField f → KeyMeets (key_of f)
unfolding key_of
field_key f g =
    let b = g.bits in
    (omega (arith, b.oe, b.pd, b.hard, b.ils, b.lsn), λ z. g.lsn (omega (arith, b.lsn)))

pub key_oe : (f : Field) → FieldBits f → oe_of (key_of f) ≡ f.oe
unfolding key_of
key_oe f b = omega (arith, b.oe, b.pd, b.hard, b.ils, b.lsn)

pub key_pd : (f : Field) → FieldBits f → key_of f / 16384 % 2 ≡ f.pd
unfolding key_of
key_pd f b = omega (arith, b.oe, b.pd, b.hard, b.ils, b.lsn)

pub key_ils : (f : Field) → FieldBits f → key_of f / 4096 % 2 ≡ f.ils
unfolding key_of
key_ils f b = omega (arith, b.oe, b.pd, b.hard, b.ils, b.lsn)

pub key_width_law : (f : Field) → FieldBits f → key_width (key_of f) ≡ width f.pd f.ils
unfolding key_width
key_width_law f b = rw (key_pd f b) (rw (key_ils f b))

-- its names
pub field_names : (f : Field) → GoodField f → names_meet (key_of f) (named_by f.qualifier) ≡ true
field_names f g = names_field (key_of f) f.qualifier (λ h. g.data_dab (sym (key_pd f g.bits) ∙ h))

-- its pairs
pub kind_pairs : (w n k : ℕ) → kind_named n k ≡ true → (ns : List ℕ) → Every (λ x. x < 256 ^ w) ns → Every (PairMeets w n) (map (pair k) ns)
unfolding pair
kind_pairs w n k h ns b =
    every_map (PairMeets w n) (pair k) ns (every_imp (λ x. x < 256 ^ w) (λ x. PairMeets w n (pair k x)) (λ x s. (s, h)) ns b)

pub start_pairs_law : (w n k q : ℕ) → kind_named n k ≡ true → kind_named n q ≡ true → (ns : List ℕ) → Every (λ x. x < 256 ^ w) ns
    → Every (PairMeets w n) (start_pairs k q ns)
unfolding start_pairs pair
start_pairs_law w n k q h i [] b = tt
start_pairs_law w n k q h i (x ∷ ns) b = ((b.0, h), kind_pairs w n q i ns b.1)

-- a start's first identifier is of a kind that may begin a set of the field's key, and that the field names if it has a name
pub first_begins : (f : Field) → GoodField f → may_begin (key_of f) (first_kind f.oe f.qualifier) ≡ true
unfolding may_begin first_of
first_begins f g =
    rw (key_oe f g.bits) (eq-eqb (first_kind f.oe (first_kind f.oe f.qualifier)) (first_kind f.oe f.qualifier) (first_again f.oe f.qualifier))

pub first_named : (f : Field) → GoodField f → kind_named (named_by f.qualifier) (first_kind f.oe f.qualifier) ≡ true
unfolding first_kind
first_named f g =
    cond_both (λ (k : ℕ). kind_named (named_by f.qualifier) k ≡ true) (eqb f.oe 1) f.qualifier dab
    (own_named f.qualifier g.bits.qualifier g.reserved) (dab_named (named_by f.qualifier))

pub field_pairs_law : (f : Field) → GoodField f → Every (PairMeets (key_width (key_of f)) (named_by f.qualifier)) (pairs_of f)
unfolding pairs_of
field_pairs_law f g =
    let b = g.bits in
    let q = own_named f.qualifier b.qualifier g.reserved in
    rw (key_width_law f b)
    (cond_both (Every (PairMeets (width f.pd f.ils) (named_by f.qualifier))) (is_continuation f) _ _
    (kind_pairs (width f.pd f.ils) (named_by f.qualifier) f.qualifier q f.numbers b.within)
    (start_pairs_law (width f.pd f.ils) (named_by f.qualifier) (first_kind f.oe f.qualifier) f.qualifier (first_named f g) q f.numbers b.within))

pub length_start_pairs : (k q : ℕ) (ns : List ℕ) → length (start_pairs k q ns) ≡ length ns
unfolding start_pairs
length_start_pairs k q [] = refl
length_start_pairs k q (n ∷ ns) = ap suc (length-map ns (pair q))

pub length_pairs : (f : Field) → length (pairs_of f) ≡ length f.numbers
unfolding pairs_of
length_pairs f =
    cond_both (λ (ps : List Pair). length ps ≡ length f.numbers) (is_continuation f) _ _
    (length-map f.numbers (pair f.qualifier)) (length_start_pairs (first_kind f.oe f.qualifier) f.qualifier f.numbers)

-- a start that brings something opens a list with something, and no list becomes empty
pub added_some : (ps qs : List Pair) → not_empty ps ≡ true → not_empty (added_all linkage ps qs) ≡ true
unfolding not_empty
added_some [] qs h = true-false h refl
added_some (p ∷ ps) qs h = let o = added_all_first linkage p ps qs in rw o.1 refl

pub start_some : (first q : ℕ) (ns : List ℕ) → 1 ≤ length ns → not_empty (added_all linkage [] (start_pairs first q ns)) ≡ true
unfolding start_pairs not_empty
start_some first q [] h = absurd (omega arith)
start_some first q (n ∷ ns) h =
    let o = opening_first linkage (pair first n) (map (pair q) ns) in
    rw o.1 refl

pub field_some : (f : Field) → GoodField f → has_list f ≡ true → is_continuation f ≡ false → not_empty (added_all linkage [] (pairs_of f)) ≡ true
unfolding pairs_of
field_some f g h c = rw c (start_some (first_kind f.oe f.qualifier) f.qualifier f.numbers (g.start h c))

-- the first of a start is of a kind that may begin the set, and stays the first
pub start_first : (k first q : ℕ) (ns : List ℕ) → may_begin k first ≡ true → begins_right k (added_all linkage [] (start_pairs first q ns)) ≡ true
unfolding start_pairs pair begins_right added_all
start_first k first q [] m = refl
start_first k first q (n ∷ ns) m =
    let o = opening_first linkage (pair first n) (map (pair q) ns) in
    rw o.1 m

pub added_first : (k : ℕ) (ps qs : List Pair) → not_empty ps ≡ true → begins_right k ps ≡ true → begins_right k (added_all linkage ps qs) ≡ true
unfolding not_empty begins_right
added_first k [] qs s h = true-false s refl
added_first k (p ∷ ps) qs s h = let o = added_all_first linkage p ps qs in rw o.1 h

pub field_first : (f : Field) → GoodField f → is_continuation f ≡ false → begins_right (key_of f) (added_all linkage [] (pairs_of f)) ≡ true
unfolding pairs_of
field_first f g c = rw c (start_first (key_of f) (first_kind f.oe f.qualifier) f.qualifier f.numbers (first_begins f g))

-- the list that a start opens
pub start_meets : (f : Field) → GoodField f → has_list f ≡ true → is_continuation f ≡ false → SetMeets (key_of f) (opening linkage (brings f))
unfolding opening brings
start_meets f g h c =
    record {
      short = omega (arith, length_added_all linkage [] (pairs_of f), length_pairs f, g.bits.few);
      some = field_some f g h c;
      first = field_first f g c;
      differ = different_added_all linkage lawful [] (pairs_of f) tt;
      pairs = every_added_all linkage (PairMeets (key_width (key_of f)) (named_by f.qualifier)) [] (pairs_of f) tt (field_pairs_law f g);
      names = field_names f g;
    }

-- a list to which a continuation is added
pub continued_meets : (f : Field) (d : IdSet) → GoodField f → SetMeets (key_of f) d → length (extended linkage d (brings f)).items ≤ most_ids
    → SetMeets (key_of f) (extended linkage d (brings f))
unfolding extended brings
continued_meets f d g m l =
    let below = names_small (key_of f) d.named m.names in
    let named = named_by f.qualifier in
    let w = key_width (key_of f) in
    let wide = PairMeets w (join_names d.named named) in
    record {
      short = l;
      some = added_some d.items (pairs_of f) m.some;
      first = added_first (key_of f) d.items (pairs_of f) m.some m.first;
      differ = different_added_all linkage lawful d.items (pairs_of f) m.differ;
      pairs =
          every_added_all linkage wide d.items (pairs_of f)
          (every_imp (PairMeets w d.named) wide (λ p h. (h.0, named_left d.named named p.kind below (named_by_below f.qualifier) h.1)) d.items m.pairs)
          (every_imp (PairMeets w named) wide (λ p h. (h.0, named_right d.named named p.kind below (named_by_below f.qualifier) h.1)) (pairs_of f) (field_pairs_law f g));
      names = names_join (key_of f) d.named named m.names (field_names f g);
    }

pub field_brings : (f : Field) → GoodField f → Brings linkage SetMeets (key_of f) (act_of f)
unfolding act_of
field_brings f g =
    cond_cases (Brings linkage SetMeets (key_of f)) (has_list f) _ no_list
    (λ h. cond_cases (Brings linkage SetMeets (key_of f)) (is_continuation f) (continuation (brings f)) (start (brings f))
    (λ c d m l. continued_meets f d g m l)
    (λ c. start_meets f g h c))
    (λ h. tt)

-- ---- the table rules are kept

pub meets_steps : (n : ℕ) (t : Entries) (fs : List Field) → Every GoodField fs → Meets t → Meets (steps linkage t (map (said n) fs)).0
unfolding said number_meets
meets_steps n t fs g m =
    let good = every_imp GoodField (λ f. FieldMeets linkage linkage_rules meaning (said n f)) (λ f h. (field_key f h, field_brings f h, λ l. refl)) fs g in
    table_steps linkage lawful linkage_rules meaning t (map (said n) fs) (every_map (FieldMeets linkage linkage_rules meaning) (said n) fs good) m

pub meets_drop_open : (t : Entries) → Meets t → Meets (drop_open linkage t)
meets_drop_open t m = table_drop_open linkage lawful linkage_rules meaning t m

pub meets_forget : (k : ℕ) (t : Entries) → Meets t → Meets (forget linkage k t)
meets_forget k t m = table_forget linkage lawful linkage_rules meaning k t m

-- ---- numbers and the count

-- the count grows, and stops
pub next_more : (n : ℕ) → n ≤ most_blocks → n ≤ next_block n
unfolding next_block
next_more n h = omega arith

pub next_most : (n : ℕ) → next_block n ≤ most_blocks
unfolding next_block
next_most n = omega arith

pub within_more : (n m : ℕ) (t : Entries) → n ≤ m → NumbersWithin n t → NumbersWithin m t
within_more n m t h = every_imp (λ (e : Held). e.stamp ≤ n) (λ (e : Held). e.stamp ≤ m) (λ e x. omega arith) t

-- fields in a block of a number keep all numbers within it
pub within_steps : (n : ℕ) (t : Entries) (fs : List Field) → NumbersWithin n t → NumbersWithin n (steps linkage t (map (said n) fs)).0
unfolding said
within_steps n t fs h =
    every_steps linkage lawful (λ e. e.stamp ≤ n) t (map (said n) fs)
    (every_map (Keeps linkage (λ e. e.stamp ≤ n)) (said n) fs (keep fs)) h
  where
    keep : (gs : List Field) → Every (λ g. Keeps linkage (λ e. e.stamp ≤ n) (said n g)) gs
    keep [] = tt
    keep (g ∷ gs) = (stamp_keeps linkage (λ shown p. p ≤ n) (omega arith) (said n g) (λ l. omega arith), keep gs)

pub within_drop_open : (n : ℕ) (t : Entries) → NumbersWithin n t → NumbersWithin n (drop_open linkage t)
unfolding closed entry_with
within_drop_open n t h = every_drop_open linkage (λ e. e.stamp ≤ n) t (λ e x. x) h

-- so a block leaves a content that meets the rules where its sets do
pub after_block_meets : (t : Content) (s : Entries) → meets t ≡ true → Meets s → NumbersWithin (next_block t.blocks) s → meets (after_block t s) ≡ true
after_block_meets t s m h w = (content_meets (after_block t s)).1 (record { sets = (table_meets_law s).1 h; within = w; most = next_most t.blocks })

-- ---- reading a block

pub cases-verdict {ℓ} : {C : Type ℓ} (v : Verdict) → ((fs : List Field) → v ≡ taken fs → C) → ((o : Outcome) (p : ℕ) → v ≡ refused o p → C)
    → (v ≡ no_block → C) → C
cases-verdict (taken fs) t r n = t fs refl
cases-verdict (refused o p) t r n = r o p refl
cases-verdict no_block t r n = n refl

pub answer_taken : (t : Content) (fib : List ℕ) (fs : List Field) → verdict fib ≡ taken fs
    → read_block t fib ≡ record { outcome = Done; place = 0; notes = (steps linkage t.sets (map (said (next_block t.blocks)) fs)).1; left = after_block t (steps linkage t.sets (map (said (next_block t.blocks)) fs)).0 }
unfolding read_block answer_to
answer_taken t fib fs e = rw e

pub answer_refused : (t : Content) (fib : List ℕ) (o : Outcome) (p : ℕ) → verdict fib ≡ refused o p
    → read_block t fib ≡ record { outcome = o; place = p; notes = []; left = after_block t (drop_open linkage t.sets) }
unfolding read_block answer_to
answer_refused t fib o p e = rw e

pub answer_none : (t : Content) (fib : List ℕ) → verdict fib ≡ no_block → read_block t fib ≡ record { outcome = NotABlock; place = 0; notes = []; left = t }
unfolding read_block answer_to
answer_none t fib e = rw e

-- bytes by their places, and as a list
pub bytes_list : (fib : List ℕ) → ((i : ℕ) → get_or fib i 0 < 256) → Bytes fib
bytes_list fib h = every_from (λ b. b < 256) 0 fib h

-- a taken block keeps the table rules, and so does a refused one
pub taken_keeps : (t : Content) (fs : List Field) → Every GoodField fs → meets t ≡ true
    → meets (after_block t (steps linkage t.sets (map (said (next_block t.blocks)) fs)).0) ≡ true
taken_keeps t fs g h =
    let m = (content_meets t).0 h in
    let n = next_block t.blocks in
    after_block_meets t _ h (meets_steps n t.sets fs g ((table_meets_law t.sets).0 m.sets))
    (within_steps n t.sets fs (within_more t.blocks n t.sets (next_more t.blocks m.most) m.within))

pub refused_keeps : (t : Content) → meets t ≡ true → meets (after_block t (drop_open linkage t.sets)) ≡ true
refused_keeps t h =
    let m = (content_meets t).0 h in
    let n = next_block t.blocks in
    after_block_meets t _ h (meets_drop_open t.sets ((table_meets_law t.sets).0 m.sets))
    (within_drop_open n t.sets (within_more t.blocks n t.sets (next_more t.blocks m.most) m.within))

-- and so does counting alone
pub counted_keeps : (t : Content) → meets t ≡ true → meets (after_block t t.sets) ≡ true
counted_keeps t h =
    let m = (content_meets t).0 h in
    after_block_meets t _ h ((table_meets_law t.sets).0 m.sets) (within_more t.blocks (next_block t.blocks) t.sets (next_more t.blocks m.most) m.within)

pub meets_block : (t : Content) (fib : List ℕ) → Bytes fib → meets t ≡ true → meets (read_block t fib).left ≡ true
meets_block t fib b m =
    cases-verdict (verdict fib)
    (λ fs e. subst (λ (a : Answer). meets a.left ≡ true) (sym (answer_taken t fib fs e)) (taken_keeps t fs (taken_good fib fs b e) m))
    (λ o p e. subst (λ (a : Answer). meets a.left ≡ true) (sym (answer_refused t fib o p e)) (refused_keeps t m))
    (λ e. subst (λ (a : Answer). meets a.left ≡ true) (sym (answer_none t fib e)) m)

-- reading a block of bytes keeps the table rules
pub block_keeps : (t : Content) (fib : List ℕ) → ((i : ℕ) → get_or fib i 0 < 256) → meets t ≡ true → meets (read_block t fib).left ≡ true
block_keeps t fib b h = meets_block t fib (bytes_list fib b) h

-- and so does forgetting
pub forget_keeps : (k : ℕ) (t : Content) → meets t ≡ true → meets (forgotten k t) ≡ true
unfolding forgotten
forget_keeps k t h =
    let m = (content_meets t).0 h in
    (content_meets (forgotten k t)).1
    (record {
      sets = (table_meets_law (forget linkage k t.sets)).1 (meets_forget k t.sets ((table_meets_law t.sets).0 m.sets));
      within = every_forget linkage (λ e. e.stamp ≤ t.blocks) k t.sets m.within;
      most = m.most;
    })

-- at most 14 notes
pub notes_few : (t : Content) (fib : List ℕ) → length (read_block t fib).notes ≤ 14
notes_few t fib =
    cases-verdict (verdict fib)
    (λ fs e. subst (λ (a : Answer). length a.notes ≤ 14) (sym (answer_taken t fib fs e))
    (omega (arith, steps_notes linkage t.sets (map (said (next_block t.blocks)) fs), length-map fs (said (next_block t.blocks)), taken_few fib fs e)))
    (λ o p e. subst (λ (a : Answer). length a.notes ≤ 14) (sym (answer_refused t fib o p e)) (omega arith))
    (λ e. subst (λ (a : Answer). length a.notes ≤ 14) (sym (answer_none t fib e)) (omega arith))

-- one note for each field of a taken block
pub notes_fields : (t : Content) (fib : List ℕ) (fs : List Field) → verdict fib ≡ taken fs → length (read_block t fib).notes ≡ length fs
notes_fields t fib fs e = rw (answer_taken t fib fs e) (steps_notes linkage t.sets (map (said (next_block t.blocks)) fs) ∙ length-map fs (said (next_block t.blocks)))

-- ---- refused blocks

-- why a block of full length is refused, its number, and the place where: each condition over the whole block before the next
-- (document 01, Numbered outcomes; document 02, R-1)
pub data Refused (fib : List ℕ) : ℕ → ℕ → Type 0 where
  -- 2: the check fails
  failing_check : check_holds fib ≡ false → Refused fib 2 0
  -- 3: the FIG walk breaks
  broken_figs : check_holds fib ≡ true → (p : ℕ) → figs fib ≡ broken p → Refused fib 3 p
  -- 4: a field does not fit
  broken_fields : check_holds fib ≡ true → (gs : List (Placed Fig)) → figs fib ≡ whole gs → (p : ℕ) → all_fields gs ≡ broken p → Refused fib 4 p
  -- 5: some field has a wrong value
  bad_value : check_holds fib ≡ true → (gs : List (Placed Fig)) → figs fib ≡ whole gs → (fs : List (Placed Field)) → all_fields gs ≡ whole fs
      → some? wrong_value fs ≡ true → Refused fib 5 (first_place wrong_value fs)
  -- 6: some start is empty
  no_first : check_holds fib ≡ true → (gs : List (Placed Fig)) → figs fib ≡ whole gs → (fs : List (Placed Field)) → all_fields gs ≡ whole fs
      → some? wrong_value fs ≡ false → some? empty_start fs ≡ true → Refused fib 6 (first_place empty_start fs)

-- what a verdict on a block of full length says: it is no other than these
abbrev pub Refusal : List ℕ → Verdict → Type 0
Refusal fib (taken fs) = Unit {0}
Refusal fib (refused o p) = Refused fib (number_of o) p
Refusal fib no_block = ⊥

module _ (fib : List ℕ) (h : check_holds fib ≡ true) where
  fields_refusal : (gs : List (Placed Fig)) → figs fib ≡ whole gs → (w : Walk (Placed Field)) → all_fields gs ≡ w → Refusal fib (judge_fields w)
  unfolding judge_fields number_of
  fields_refusal gs g (broken p) e = broken_fields h gs g p e
  fields_refusal gs g (whole fs) e =
      cases_bool (some? wrong_value fs)
      (λ v. rw v (bad_value h gs g fs e v))
      (λ v. rw v (cases_bool (some? empty_start fs) (λ s. rw s (no_first h gs g fs e v s)) (λ s. rw s tt)))

  figs_refusal : (w : Walk (Placed Fig)) → figs fib ≡ w → Refusal fib (judge_figs w)
  unfolding judge_figs number_of
  figs_refusal (broken p) e = broken_figs h p e
  figs_refusal (whole gs) e = fields_refusal gs e (all_fields gs) refl

pub full_refusal : (fib : List ℕ) → length fib ≡ 32 → Refusal fib (verdict fib)
unfolding verdict number_of
full_refusal fib l =
    rw (eq-eqb (length fib) 32 l)
    (cases_bool (check_holds fib) (λ h. rw h (figs_refusal fib h (figs fib) refl)) (λ h. rw h (failing_check h)))

-- so what is refused is a block of full length
pub refused_full : (fib : List ℕ) (o : Outcome) (p : ℕ) → verdict fib ≡ refused o p → (length fib ≡ 32) × Refused fib (number_of o) p
refused_full fib o p e =
    cases_bool (eqb (length fib) 32)
    (λ l.
    let full = eqb-true (length fib) 32 l in
    (full, subst (Refusal fib) e (full_refusal fib full)))
    (λ l.
    let none : verdict fib ≡ no_block = unfold verdict in rw l in
    let z : ◌≡◌ {A = ℕ} 0 1 = cc in
    absurd (omega arith))

-- and its number is none but 2 to 6
pub refused_numbers : {fib : List ℕ} {n p : ℕ} → Refused fib n p → (2 ≤ n) × (n ≤ 6)
refused_numbers (failing_check h) = (omega arith, omega arith)
refused_numbers (broken_figs h p e) = (omega arith, omega arith)
refused_numbers (broken_fields h gs g p e) = (omega arith, omega arith)
refused_numbers (bad_value h gs g fs e v) = (omega arith, omega arith)
refused_numbers (no_first h gs g fs e v s) = (omega arith, omega arith)

pub refused_not_done : (fib : List ℕ) (o : Outcome) (p : ℕ) → verdict fib ≡ refused o p → o ≡ Done → ⊥
unfolding number_of
refused_not_done fib o p e d = omega (arith, ap number_of d, (refused_numbers (refused_full fib o p e).1).0)

-- what has not 32 bytes is no block, and nothing changes
pub no_block_law : (t : Content) (fib : List ℕ) → (length fib ≡ 32 → ⊥) → read_block t fib ≡ record { outcome = NotABlock; place = 0; notes = []; left = t }
no_block_law t fib h = answer_none t fib (unfold verdict in rw (ne_eqb (length fib) 32 h))

-- ---- recordings

pub meets_blocks : (n : ℕ) (t : Content) (bytes : List ℕ) → Bytes bytes → meets t ≡ true → meets (read_blocks n t bytes) ≡ true
unfolding read_blocks
meets_blocks zero t bytes b m = m
meets_blocks (suc n) t bytes b m =
    meets_blocks n (read_block t (take 32 bytes)).left (drop 32 bytes) (every_drop (λ b. b < 256) 32 bytes b)
    (meets_block t (take 32 bytes) (every_take (λ b. b < 256) 32 bytes b) m)

pub recording_keeps : (t : Content) (bytes : List ℕ) → ((i : ℕ) → get_or bytes i 0 < 256) → meets t ≡ true → meets (read_recording t bytes) ≡ true
unfolding read_recording
recording_keeps t bytes b h =
    meets_blocks (length bytes / 32) t bytes (bytes_list bytes b) h

-- whole blocks first, then the rest
pub blocks_append : (n m k : ℕ) (t : Content) (a b : List ℕ) → n ≡ m + k → length a ≡ 32 * m
    → read_blocks n t (a ++ b) ≡ read_blocks k (read_blocks m t a) b
unfolding read_blocks
blocks_append n zero k t [] b e l = let q : n ≡ k = omega arith in ap (λ (i : ℕ). read_blocks i t b) q
blocks_append n zero k t (x ∷ a) b e l = absurd (omega arith)
blocks_append zero (suc m) k t a b e l = absurd (omega arith)
blocks_append (suc n) (suc m) k t a b e l =
    rw (take-append-le 32 a b (omega arith)) (rw (drop-append-le 32 a b (omega arith))
    (blocks_append n m k (read_block t (take 32 a)).left (drop 32 a) b (omega arith) (omega (arith, length-drop 32 a))))

pub recording_append : (t : Content) (a b : List ℕ) → length a % 32 ≡ 0 → read_recording t (a ++ b) ≡ read_recording (read_recording t a) b
unfolding read_recording
recording_append t a b h =
    blocks_append (length (a ++ b) / 32) (length a / 32) (length b / 32) t a b (omega (arith, length-append a b)) (omega arith)

pub left_over_append : (a b : List ℕ) → length a % 32 ≡ 0 → left_over (a ++ b) ≡ left_over b
unfolding left_over
left_over_append a b h = omega (arith, length-append a b)
