-- What of document 01 still holds after document 02's R-3. With OE 0 a field says what it said, so a block or a recording without OE 1
-- reads as before, into any table; a table that met the rules meets them, for keys with OE 0 the rules are the same, and so a shown set with OE
-- 0 begins with a DAB service; and of blocks without OE 1 no key with OE 1 comes to be held.
use Prim.Native.Nat.{ℕ, zero, suc, ◌/◌, ◌<◌}
use mathlib.Core.Path.{◌≡◌, refl, sym, ◌∙◌, subst}
use mathlib.Core.Bool.{Bool, true, ◌&&◌}
use mathlib.Core.List.{List, [], ◌∷◌, map}
use mathlib.Core.Option.{Option, none, some}
use lib.ListN.{length, take, drop}
use lib.Dec.{leb, ltb}
use borrow.Author.Tests.{eqb-true, eq-eqb}
use Rattle.rules.specs.Field.{Field, Pair, dab, first_kind, pairs_of}
use Rattle.rules.specs.Family.{Rules, entry_with, closed, steps, maybe_meets, held_meets, all_meet, goes_up, table_meets}
use Rattle.rules.specs.Collecting.{linkage, IdSet, Held, Entries, Content, brings, act_of, said, is_key, key_width, oe_of, begins_right, not_empty, all_differ, pairs_meet, names_meet, set_meets, sets_meet, number_meets, numbers_within, next_block, meets, Shown, shown_sets, most_keys, most_ids, most_blocks}
use Rattle.rules.specs.Outcomes.{Verdict, taken, refused, no_block, verdict, Answer, answer_to, read_block, read_blocks, read_recording}
use Rattle.rules.specs.Before.{pairs_before, brings_before, said_before, answer_before, block_before, blocks_before, recording_before, begins_dab, set_before, met_before}
use Rattle.rules.proofs.Basics.{and_left, and_right, and_both, and_three, and_four, and_six, Every, every_imp, every_take, every_drop}
use Rattle.rules.proofs.FamilyLaws.{Keeps, keeps_key, every_steps, every_drop_open}
use Rattle.rules.proofs.TableRules.{lawful, begins_dab_law, dab_begins, set_rules, each_shown}
use Rattle.rules.proofs.Taken.{Bytes, GoodField, taken_good}
use Rattle.rules.proofs.LinkageLaws.{key_oe, cases-verdict, answer_taken, answer_refused, answer_none}

-- ---- reading

-- the field speaks of the tuned ensemble
abbrev pub Tuned : Field → Type 0
Tuned f = f.oe ≡ 0

-- it says what it said
pub said_before_law : (n : ℕ) (f : Field) → Tuned f → said n f ≡ said_before n f
unfolding said said_before act_of brings brings_before pairs_of pairs_before first_kind
said_before_law n f z = rw z

pub all_said_before : (n : ℕ) (fs : List Field) → Every Tuned fs → map (said n) fs ≡ map (said_before n) fs
all_said_before n [] h = refl
all_said_before n (f ∷ fs) h = rw (said_before_law n f h.0, all_said_before n fs h.1)

-- of a block that is taken, every field does
abbrev pub TunedIn : Verdict → Type 0
TunedIn (taken fs) = Every Tuned fs
TunedIn (refused o p) = Unit {0}
TunedIn no_block = Unit {0}

answer_before_law : (t : Content) (v : Verdict) → TunedIn v → answer_to t v ≡ answer_before t v
unfolding answer_to answer_before
answer_before_law t (taken fs) h = rw (all_said_before (next_block t.blocks) fs h)
answer_before_law t (refused o p) h = refl
answer_before_law t no_block h = refl

-- such a block is read as before: answer, notes and all that is left
pub block_before_law : (t : Content) (fib : List ℕ) → TunedIn (verdict fib) → read_block t fib ≡ block_before t fib
unfolding read_block block_before
block_before_law t fib h = answer_before_law t (verdict fib) h

-- the first n blocks are such
abbrev pub TunedBlocks : ℕ → List ℕ → Type 0
TunedBlocks zero bytes = Unit {0}
TunedBlocks (suc n) bytes = TunedIn (verdict (take 32 bytes)) × TunedBlocks n (drop 32 bytes)

blocks_before_law : (n : ℕ) (t : Content) (bytes : List ℕ) → TunedBlocks n bytes → read_blocks n t bytes ≡ blocks_before n t bytes
unfolding read_blocks blocks_before
blocks_before_law zero t bytes h = refl
blocks_before_law (suc n) t bytes h = rw (block_before_law t (take 32 bytes) h.0) (blocks_before_law n (block_before t (take 32 bytes)).left (drop 32 bytes) h.1)

-- a recording without OE 1 leaves what it left
pub recording_before_law : (t : Content) (bytes : List ℕ) → TunedBlocks (length bytes / 32) bytes → read_recording t bytes ≡ recording_before t bytes
unfolding read_recording recording_before
recording_before_law t bytes h = blocks_before_law (length bytes / 32) t bytes h

-- ---- the table rules

-- the rules of linkage with this test of a list
abbrev rules_with : (ℕ → IdSet → Bool) → Rules linkage
rules_with test = record { key_meets = is_key; list_meets = test; stamp_meets = number_meets; begins = ltb 0 }

-- a key's lists that pass one test pass the other
abbrev Passes : (ℕ → IdSet → Bool) → (ℕ → IdSet → Bool) → ℕ → Type 0
Passes P Q k = (l : IdSet) → P k l ≡ true → Q k l ≡ true

module _ (P Q : ℕ → IdSet → Bool) where
  maybe_passes : (k : ℕ) (o : Option IdSet) → Passes P Q k → maybe_meets linkage (rules_with P) k o ≡ true → maybe_meets linkage (rules_with Q) k o ≡ true
  maybe_passes k none h m = refl
  maybe_passes k (some l) h m = h l m

  held_passes : (e : Held) → Passes P Q e.key → held_meets linkage (rules_with P) e ≡ true → held_meets linkage (rules_with Q) e ≡ true
  unfolding held_meets
  held_passes e h m =
      let n = number_meets e.shown e.stamp in
      let a = (and_four n (is_key e.key) (maybe_meets linkage (rules_with P) e.key e.shown) (maybe_meets linkage (rules_with P) e.key e.draft)).0 m in
      (and_four n (is_key e.key) (maybe_meets linkage (rules_with Q) e.key e.shown) (maybe_meets linkage (rules_with Q) e.key e.draft)).1
      (a.0, a.1, maybe_passes e.key e.shown h a.2, maybe_passes e.key e.draft h a.3)

  all_pass : (t : Entries) → Every (λ e. Passes P Q e.key) t → all_meet linkage (rules_with P) t ≡ true → all_meet linkage (rules_with Q) t ≡ true
  all_pass [] h m = refl
  all_pass (e ∷ es) h m =
      and_both (held_meets linkage (rules_with Q) e) (all_meet linkage (rules_with Q) es)
      (held_passes e h.0 (and_left (held_meets linkage (rules_with P) e) (all_meet linkage (rules_with P) es) m))
      (all_pass es h.1 (and_right (held_meets linkage (rules_with P) e) (all_meet linkage (rules_with P) es) m))

  table_passes : (t : Entries) → Every (λ e. Passes P Q e.key) t → table_meets linkage (rules_with P) t ≡ true → table_meets linkage (rules_with Q) t ≡ true
  table_passes t h m =
      let a = (and_three (leb (length t) most_keys) (goes_up linkage (ltb 0) t) (all_meet linkage (rules_with P) t)).0 m in
      (and_three (leb (length t) most_keys) (goes_up linkage (ltb 0) t) (all_meet linkage (rules_with Q) t)).1 (a.0, a.1, all_pass t h a.2)

-- where a list begins as asked before, it begins as asked now; with OE 0 also the other way
begins_before : (k : ℕ) (ps : List Pair) → begins_dab ps ≡ true → begins_right k ps ≡ true
unfolding begins_dab begins_right
begins_before k [] h = refl
begins_before k (p ∷ ps) h = rw (eqb-true p.kind dab h) (dab_begins k)

pub begins_tuned : (k : ℕ) (ps : List Pair) → oe_of k ≡ 0 → begins_right k ps ≡ true → begins_dab ps ≡ true
unfolding begins_dab begins_right
begins_tuned k [] z h = refl
begins_tuned k (p ∷ ps) z h = eq-eqb p.kind dab (begins_dab_law k p.kind z h)

-- six tests, with the third exchanged
six_pass : (a b c d e f g : Bool) → (c ≡ true → g ≡ true) → (a && b && c && d && e && f) ≡ true → (a && b && g && d && e && f) ≡ true
six_pass a b c d e f g h m = let r = (and_six a b c d e f).0 m in (and_six a b g d e f).1 (r.0, r.1, h r.2, r.3, r.4, r.5)

set_before_law : (k : ℕ) → Passes set_before set_meets k
unfolding set_before set_meets
set_before_law k l =
    six_pass (leb (length l.items) most_ids) (not_empty l.items) (begins_dab l.items) (all_differ l.items)
    (pairs_meet (key_width k) l.named l.items) (names_meet k l.named) (begins_right k l.items) (begins_before k l.items)

set_tuned : (k : ℕ) → oe_of k ≡ 0 → Passes set_meets set_before k
unfolding set_before set_meets
set_tuned k z l =
    six_pass (leb (length l.items) most_ids) (not_empty l.items) (begins_right k l.items) (all_differ l.items)
    (pairs_meet (key_width k) l.named l.items) (names_meet k l.named) (begins_dab l.items) (begins_tuned k l.items z)

-- what met the rules meets them
pub met_before_law : (t : Content) → met_before t ≡ true → meets t ≡ true
unfolding met_before meets sets_meet
met_before_law t h =
    let n = numbers_within t.blocks t.sets in
    let b = leb t.blocks most_blocks in
    let a = (and_three (table_meets linkage (rules_with set_before) t.sets) n b).0 h in
    (and_three (table_meets linkage (rules_with set_meets) t.sets) n b).1 (table_passes set_before set_meets t.sets (every t.sets) a.0, a.1, a.2)
  where
    every : (es : Entries) → Every (λ (e : Held). Passes set_before set_meets e.key) es
    every [] = tt
    every (e ∷ es) = (set_before_law e.key, every es)

-- with keys of OE 0 alone, what meets them met them
abbrev pub TunedKey : Held → Type 0
TunedKey e = oe_of e.key ≡ 0

abbrev pub TunedKeys : Content → Type 0
TunedKeys t = Every TunedKey t.sets

pub tuned_met : (t : Content) → TunedKeys t → meets t ≡ true → met_before t ≡ true
unfolding met_before meets sets_meet
tuned_met t z h =
    let n = numbers_within t.blocks t.sets in
    let b = leb t.blocks most_blocks in
    let a = (and_three (table_meets linkage (rules_with set_meets) t.sets) n b).0 h in
    (and_three (table_meets linkage (rules_with set_before) t.sets) n b).1 (
      table_passes set_meets set_before t.sets
          (every_imp TunedKey (λ (e : Held). Passes set_meets set_before e.key) (λ e o. set_tuned e.key o) t.sets z) a.0,
      a.1,
      a.2,
    )

-- ---- the guard

-- with OE 0 a set begins with a DAB service: no RDS code can stand first
abbrev pub Guarded : Shown → Type 0
Guarded s = oe_of s.key ≡ 0 → begins_dab s.set.items ≡ true

pub guarded : (t : Content) → meets t ≡ true → Every Guarded (shown_sets t.sets)
guarded = each_shown Guarded (λ s m z. begins_tuned s.key s.set.items z ((set_rules s.key s.set).0 m).first)

-- ---- the keys that come to be held

-- of fields with OE 0 only such keys do
keys_steps : (n : ℕ) (t : Entries) (fs : List Field) → Every GoodField fs → Every Tuned fs → Every TunedKey t → Every TunedKey (steps linkage t (map (said n) fs)).0
unfolding said
keys_steps n t fs g z h = every_steps linkage lawful TunedKey t (map (said n) fs) (keep fs g z) h
  where
    keep : (gs : List Field) → Every GoodField gs → Every Tuned gs → Every (Keeps linkage TunedKey) (map (said n) gs)
    keep [] g z = tt
    keep (f ∷ gs) g z = (keeps_key linkage (λ (k : ℕ). oe_of k ≡ 0) (said n f) (key_oe f g.0.bits ∙ z.0), keep gs g.1 z.1)

keys_block : (t : Content) (fib : List ℕ) → Bytes fib → TunedIn (verdict fib) → TunedKeys t → TunedKeys (read_block t fib).left
unfolding closed entry_with
keys_block t fib b z h =
    cases-verdict (verdict fib)
    (λ fs e. subst (λ (a : Answer). TunedKeys a.left) (sym (answer_taken t fib fs e)) (keys_steps (next_block t.blocks) t.sets fs (taken_good fib fs b e) (subst TunedIn e z) h))
    (λ o p e. subst (λ (a : Answer). TunedKeys a.left) (sym (answer_refused t fib o p e)) (every_drop_open linkage TunedKey t.sets (λ x q. q) h))
    (λ e. subst (λ (a : Answer). TunedKeys a.left) (sym (answer_none t fib e)) h)

keys_blocks : (n : ℕ) (t : Content) (bytes : List ℕ) → Bytes bytes → TunedBlocks n bytes → TunedKeys t → TunedKeys (read_blocks n t bytes)
unfolding read_blocks
keys_blocks zero t bytes b z h = h
keys_blocks (suc n) t bytes b z h =
    keys_blocks n (read_block t (take 32 bytes)).left (drop 32 bytes) (every_drop (λ b. b < 256) 32 bytes b) z.1
    (keys_block t (take 32 bytes) (every_take (λ b. b < 256) 32 bytes b) z.0 h)

pub keys_recording : (t : Content) (bytes : List ℕ) → Bytes bytes → TunedBlocks (length bytes / 32) bytes → TunedKeys t → TunedKeys (read_recording t bytes)
unfolding read_recording
keys_recording t bytes b z h = keys_blocks (length bytes / 32) t bytes b z h
