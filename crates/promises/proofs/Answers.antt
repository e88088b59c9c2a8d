-- Every call has a numbered outcome, and every refusal says what it leaves (document 01, demand 1). In order: reading a block,
-- a recording, forgetting, copying out, the totals; of each the answers that there are (a data type with a constructor for each kind of
-- answer: when it is given, its number, and what is left), that there are no others, and what a refusal leaves.
use Prim.Native.Nat.{ℕ, ◌%◌, ◌≤◌, ◌<◌}
use native.Mathlib.Omega.{arith}
use mathlib.Core.Path.{◌≡◌, refl, sym, ap, ap₂, ◌∙◌, subst}
use mathlib.Core.Bool.{true, ◌||◌}
use mathlib.Core.List.{List, [], ◌∷◌}
use mathlib.Core.Logic.{◌⊎◌, inl, inr}
use mathlib.Core.Option.{Option, none, some}
use lib.ListN.{length, replicate}
use lib.Dec.{ltb, eqb}
use borrow.Author.Tests.{eqb-true, eqb-false, ltb-true, ltb-false}
use Rattle.rules.specs.declared.Outcome.TheVariants.{Done, WrongTable}
use Rattle.rules.specs.Field.{Field}
use Rattle.rules.specs.Family.{find, forget, drop_open}
use Rattle.rules.specs.Collecting.{linkage, IdSet, Held, Entries, Content, with_sets, next_block, after_block, meets, most_keys}
use Rattle.rules.specs.Outcomes as Outcomes
use Rattle.rules.specs.Outcomes.{number_of, taken, verdict, left_over, refusals, roomless, held_or, forget_outcome, forgotten, copy_set, copy_held, copy_out, not_copied}
use Rattle.rules.proofs.Basics.{cases_bool, cases-option, none_some, or_cases, or_false_left, or_false_right}
use Rattle.rules.proofs.LinkageLaws.{cases-verdict, answer_taken, answer_refused, no_block_law, notes_fields, Refused, Refusal, full_refusal, refused_full, refused_numbers}
use Rattle.rules.proofs.FirstFault.{FirstFault, of_check, of_fig, of_field, of_value, of_start, first_fault_in_class}
use Rattle.rules.proofs.TableRules.{table_rules, sets_meet_law}
use Rattle.lists.specs.Stored.{empty_list}
use Rattle.table.specs.declared.Table.{Table}
use Rattle.table.specs.declared.Forgotten.{Forgotten}
use Rattle.table.specs.declared.Copied.{Copied}
use Rattle.table.specs.declared.NotCopied.{NotCopied}
use Rattle.table.specs.declared.WrongTable as Uncounted
use Rattle.table.specs.Stored.{table_of, store_table, Stored, stored, not_stored}
use Rattle.table.specs.Answers.{no_totals_told, forgotten_as, outcome_of, copied_as}
use Rattle.totals.specs.Totals.{sums, totals_of}
use Rattle.totals.proofs.Laws.{shown_closed}
use Rattle.totals.specs.declared.Totals.{Totals}
use Rattle.sets.specs.declared.Sets.{Sets}
use Rattle.sets.specs.Stored.{with_draft}
use Rattle.sets.proofs.StoreLaws.{store_closed}
use Rattle.reading.specs.declared.Answer.{Answer}
use Rattle.reading.specs.declared.Recorded.{Recorded}
use Rattle.reading.specs.Steps.{store_notes, no_notes}
use Rattle.reading.specs.Runs.{run_as, refused_table, recorded_as, unrecorded}
use Rattle.reading.proofs.RunLaws.{no_notes_law}
use Rattle.std.specs.Prelude.{Result, Ok, Err}
use Rattle.promises.proofs.Contracts.{told, ReadsBlock, ReadsRecording, Forgets, CopiesOut, Counts}
use Rattle.promises.proofs.Single.{uncopied_done, copied_apart}

-- ---- reading a block: 0 to 6, or 9

-- no list is open, and one block more is counted; held keys, on and off, shown sets and their numbers, totals, and whatever else there
-- is, are as they were
abbrev pub OpenDropped : Table → Table → Type 0
OpenDropped t u = u ≡ table_of (with_draft t.sets (replicate most_keys empty_list)) t.totals (next_block t.blocks)

pub data BlockAnswer (t : Table) (fib : List ℕ) (r : Answer) : Type 0 where
  -- 0, with one note a field
  done : Stored t → (fs : List Field) → verdict fib ≡ taken fs → number_of r.outcome ≡ 0 → r.place ≡ 0 → r.notes.count ≡ length fs → BlockAnswer t fib r
  -- 1: everything is left as it was
  not_a_block : Stored t → (length fib ≡ 32 → ⊥) → number_of r.outcome ≡ 1 → r.place ≡ 0 → r.notes ≡ no_notes → r.table ≡ t → BlockAnswer t fib r
  -- 2 to 6, each for its reason, at the place of the first fault within the class answered: everything but the open lists and the count
  -- is left as it was
  refused_block : Stored t → length fib ≡ 32 → Refused fib (number_of r.outcome) r.place → FirstFault fib (number_of r.outcome) r.place
      → r.notes ≡ no_notes → OpenDropped t r.table → BlockAnswer t fib r
  -- 9: everything is left as it was
  wrong_table : (Stored t → ⊥) → number_of r.outcome ≡ 9 → r.place ≡ 0 → r.notes ≡ no_notes → r.table ≡ t → BlockAnswer t fib r

dropped : (t u : Table) (c : Content) → meets c ≡ true → t ≡ store_table c → u ≡ store_table (after_block c (drop_open linkage c.sets)) → OpenDropped t u
unfolding totals_of
dropped t u c f p q =
    q
    ∙ ap₂ (λ (s : Sets) (n : Totals). table_of s n (next_block c.blocks)) (store_closed c.sets ((table_rules c.sets).0 (sets_meet_law c f)).short) (ap sums (shown_closed c.sets))
    ∙ ap (λ (x : Table). table_of (with_draft x.sets (replicate most_keys empty_list)) x.totals (next_block x.blocks)) (sym p)

pub read_block_answers : (t : Table) (fib : List ℕ) (r : Answer) → ReadsBlock t fib r → BlockAnswer t fib r
unfolding Stored run_as refused_table number_of store_notes
read_block_answers t fib r (stored c f p a) =
    cases_bool (eqb (length fib) 32)
    (λ l. cases-verdict (verdict fib)
    (λ fs e.
    let q = a ∙ ap run_as (answer_taken c fib fs e) in
    done (c, f, p) fs e (ap (λ (x : Answer). number_of x.outcome) q) (ap (λ (x : Answer). x.place) q)
    (ap (λ (x : Answer). x.notes.count) a ∙ notes_fields c fib fs e))
    (λ o w e.
    let q = a ∙ ap run_as (answer_refused c fib o w e) in
    let b = refused_full fib o w e in
    let why = subst (λ (x : Answer). Refused fib (number_of x.outcome) x.place) (sym q) b.1 in
    refused_block (c, f, p) b.0 why (first_fault_in_class fib _ _ b.0 why)
    (ap (λ (x : Answer). x.notes) q ∙ sym no_notes_law) (dropped t r.table c f p (ap (λ (x : Answer). x.table) q)))
    (λ e. absurd (subst (Refusal fib) e (full_refusal fib (eqb-true _ _ l)))))
    (λ l.
    let q = a ∙ ap run_as (no_block_law c fib (eqb-false _ _ l)) in
    not_a_block (c, f, p) (eqb-false _ _ l) (ap (λ (x : Answer). number_of x.outcome) q) (ap (λ (x : Answer). x.place) q) (ap (λ (x : Answer). x.notes) q ∙ sym no_notes_law)
    (ap (λ (x : Answer). x.table) q ∙ sym p))
read_block_answers t fib r (not_stored n a) =
    wrong_table n (ap (λ (x : Answer). number_of x.outcome) a) (ap (λ (x : Answer). x.place) a) (ap (λ (x : Answer). x.notes) a) (ap (λ (x : Answer). x.table) a)

-- a refusal leaves everything as it was, or it is one of 2 to 6, for its reason, and everything but the open lists and the count is left as
-- it was
pub read_block_refused : (t : Table) (fib : List ℕ) (r : Answer) → BlockAnswer t fib r → (number_of r.outcome ≡ 0 → ⊥)
    → (r.table ≡ t) ⊎ (Refused fib (number_of r.outcome) r.place × OpenDropped t r.table)
read_block_refused t fib r (done s fs e o p n) h = absurd (h o)
read_block_refused t fib r (not_a_block s l o p n e) h = inl e
read_block_refused t fib r (refused_block s l w f n d) h = inr (w, d)
read_block_refused t fib r (wrong_table s o p n e) h = inl e

-- the first fault within the class answered: what stands at the place of a block that is refused with 2 to 6 is at fault, and nothing of
-- that class before it is
pub read_block_place : (t : Table) (fib : List ℕ) (r : Answer) → BlockAnswer t fib r → 2 ≤ number_of r.outcome → number_of r.outcome ≤ 6
    → FirstFault fib (number_of r.outcome) r.place
read_block_place t fib r (done s fs e o p n) l h = absurd (omega arith)
read_block_place t fib r (not_a_block s k o p n e) l h = absurd (omega arith)
read_block_place t fib r (refused_block s k w f n d) l h = f
read_block_place t fib r (wrong_table s o p n e) l h = absurd (omega arith)

-- a failing check has no place
check_place : {fib : List ℕ} {n p : ℕ} → FirstFault fib n p → n < 3 → p ≡ 0
check_place (of_check h) l = refl
check_place (of_fig p b) l = absurd (omega arith)
check_place (of_field gs g p b) l = absurd (omega arith)
check_place (of_value gs g fs e p b) l = absurd (omega arith)
check_place (of_start gs g fs e v p b) l = absurd (omega arith)

-- for 0, 1, 2 and 9 the place is 0
pub read_block_no_place : (t : Table) (fib : List ℕ) (r : Answer) → BlockAnswer t fib r → (number_of r.outcome < 3) ⊎ (number_of r.outcome ≡ 9)
    → r.place ≡ 0
read_block_no_place t fib r (done s fs e o p n) h = p
read_block_no_place t fib r (not_a_block s k o p n e) h = p
read_block_no_place t fib r (refused_block s k w f n d) (inl h) = check_place f h
read_block_no_place t fib r (refused_block s k w f n d) (inr h) = absurd (omega (arith, refused_numbers w))
read_block_no_place t fib r (wrong_table s o p n e) h = p

-- ---- a recording: 0 or 9

-- a table stores a content that meets the rules
abbrev pub Stores : Table → Content → Type 0
Stores t c = (meets c ≡ true) × (t ≡ store_table c)

pub data RecordingAnswer (t : Table) (bytes : List ℕ) (r : Recorded) : Type 0 where
  -- 0, with the number of bytes left over, of starts that found no room, and of refused blocks
  done : (c : Content) → Stores t c → number_of r.outcome ≡ 0 → r.rest ≡ length bytes % 32 → r.full ≡ roomless c bytes
      → r.refused ≡ refusals bytes → RecordingAnswer t bytes r
  -- 9: everything is left as it was
  wrong_table : (Stored t → ⊥) → number_of r.outcome ≡ 9 → r.rest ≡ 0 → r.full ≡ 0 → r.refused ≡ 0 → r.table ≡ t → RecordingAnswer t bytes r

pub read_recording_answers : (t : Table) (bytes : List ℕ) (r : Recorded) → ReadsRecording t bytes r → RecordingAnswer t bytes r
unfolding Stored recorded_as unrecorded number_of left_over
read_recording_answers t bytes r (stored c f p a) =
    done c (f, p) (ap (λ (x : Recorded). number_of x.outcome) a) (ap (λ (x : Recorded). x.rest) a) (ap (λ (x : Recorded). x.full) a)
    (ap (λ (x : Recorded). x.refused) a)
read_recording_answers t bytes r (not_stored n a) =
    wrong_table n (ap (λ (x : Recorded). number_of x.outcome) a) (ap (λ (x : Recorded). x.rest) a) (ap (λ (x : Recorded). x.full) a)
    (ap (λ (x : Recorded). x.refused) a) (ap (λ (x : Recorded). x.table) a)

-- a refusal leaves everything as it was
pub read_recording_refused : (t : Table) (bytes : List ℕ) (r : Recorded) → RecordingAnswer t bytes r → (number_of r.outcome ≡ 0 → ⊥) → r.table ≡ t
read_recording_refused t bytes r (done c s o n f q) h = absurd (h o)
read_recording_refused t bytes r (wrong_table s o n f q e) h = e

-- ---- forgetting: 0, 7 or 9

pub data ForgetAnswer (t : Table) (k : ℕ) (r : Forgotten) : Type 0 where
  -- 0: the key was held
  done : (c : Content) → Stores t c → (e : Held) → find linkage k c.sets ≡ some e → number_of r.outcome ≡ 0 → ForgetAnswer t k r
  -- 7: it was not, and everything is left as it was
  not_held : (c : Content) → Stores t c → find linkage k c.sets ≡ none → number_of r.outcome ≡ 7 → r.table ≡ t → ForgetAnswer t k r
  -- 9: everything is left as it was
  wrong_table : (Stored t → ⊥) → number_of r.outcome ≡ 9 → r.table ≡ t → ForgetAnswer t k r

-- forgetting what is not held changes nothing
forget_unheld : (k : ℕ) (c : Entries) → find linkage k c ≡ none → forget linkage k c ≡ c
unfolding find forget
forget_unheld k [] e = refl
forget_unheld k (x ∷ c) e =
    cases_bool (eqb k x.key)
    (λ s. none_some {a = x} e (rw s))
    (λ s. rw s (ap (◌∷◌ x) (forget_unheld k c (rw s at e))))

pub forget_key_answers : (t : Table) (k : ℕ) (r : Forgotten) → Forgets t k r → ForgetAnswer t k r
unfolding forgotten_as forget_outcome forgotten held_or number_of
forget_key_answers t k r (stored c f p a) =
    let n = ap (λ (x : Forgotten). number_of x.outcome) a in
    cases-option (find linkage k c.sets)
    (λ e. not_held c (f, p) e (n ∙ ap (λ (o : Option Held). number_of (held_or o Done)) e)
    (ap (λ (x : Forgotten). x.table) a ∙ ap (λ (s : Entries). store_table (with_sets c s)) (forget_unheld k c.sets e) ∙ sym p))
    (λ x e. done c (f, p) x e (n ∙ ap (λ (o : Option Held). number_of (held_or o Done)) e))
forget_key_answers t k r (not_stored n a) = wrong_table n (ap (λ (x : Forgotten). number_of x.outcome) a) (ap (λ (x : Forgotten). x.table) a)

-- a refusal leaves everything as it was
pub forget_key_refused : (t : Table) (k : ℕ) (r : Forgotten) → ForgetAnswer t k r → (number_of r.outcome ≡ 0 → ⊥) → r.table ≡ t
forget_key_refused t k r (done c s e f o) h = absurd (h o)
forget_key_refused t k r (not_held c s f o e) h = e
forget_key_refused t k r (wrong_table s o e) h = e

-- ---- copying out: 0, 7, 8, 9 or 11

-- both buffers are as they were, and the answer says nothing but why
pub record Uncopied (why : NotCopied) (ns ks : List ℕ) (r : Result Copied NotCopied) (ms js : List ℕ) : Type 0 where
  pub numbers : ms ≡ ns
  pub kinds : js ≡ ks
  pub answer : r ≡ Err why

pub data CopyAnswer (t : Table) (k : ℕ) (ns ks : List ℕ) (r : Result Copied NotCopied) (ms js : List ℕ) : Type 0 where
  -- 0: the key is held, its set shown, and both buffers are long enough
  done : (c : Content) → Stores t c → (e : Held) → find linkage k c.sets ≡ some e → (l : IdSet) → e.shown ≡ some l
      → length l.items ≤ length ns → length l.items ≤ length ks → number_of (told outcome_of r) ≡ 0 → (s : Copied) → r ≡ Ok s → CopyAnswer t k ns ks r ms js
  -- 7, 11, 8 and 9: nothing is written
  not_held : (c : Content) → Stores t c → find linkage k c.sets ≡ none → number_of (told outcome_of r) ≡ 7 → Uncopied NotCopied.NotHeld ns ks r ms js
      → CopyAnswer t k ns ks r ms js
  not_shown : (c : Content) → Stores t c → (e : Held) → find linkage k c.sets ≡ some e → e.shown ≡ none
      → number_of (told outcome_of r) ≡ 11 → Uncopied NotCopied.NotShown ns ks r ms js → CopyAnswer t k ns ks r ms js
  short_buffer : (c : Content) → Stores t c → (e : Held) → find linkage k c.sets ≡ some e → (l : IdSet) → e.shown ≡ some l
      → (length ns < length l.items) ⊎ (length ks < length l.items) → number_of (told outcome_of r) ≡ 8 → Uncopied NotCopied.ShortBuffer ns ks r ms js
      → CopyAnswer t k ns ks r ms js
  wrong_table : (Stored t → ⊥) → number_of (told outcome_of r) ≡ 9 → Uncopied NotCopied.WrongTable ns ks r ms js → CopyAnswer t k ns ks r ms js

uncopied : (why : NotCopied) (ns ks : List ℕ) (r : Result Copied NotCopied) (ms js : List ℕ) → copied_as r ms js ≡ not_copied (outcome_of why) ns ks
    → (number_of (told outcome_of r) ≡ number_of (outcome_of why)) × Uncopied why ns ks r ms js
unfolding copied_as
uncopied why ns ks r ms js e =
    let a = copied_apart r (Err why) ms js ns ks e in
    (ap (λ (x : Result Copied NotCopied). number_of (told outcome_of x)) a.0, record { numbers = a.1; kinds = a.2; answer = a.0 })

-- the outcome that an answer is told by
pub told_copied : (r : Result Copied NotCopied) (ms js : List ℕ) → (copied_as r ms js).outcome ≡ told outcome_of r
unfolding copied_as not_copied
told_copied (Ok s) ms js = refl
told_copied (Err why) ms js = refl

copied_done : (r : Result Copied NotCopied) → told outcome_of r ≡ Done → (s : Copied) × (r ≡ Ok s)
copied_done (Ok s) e = (s, refl)
copied_done (Err why) e = absurd (uncopied_done why e)

module _ (t : Table) (k : ℕ) (ns ks : List ℕ) (r : Result Copied NotCopied) (ms js : List ℕ) where
  -- a shown set, with room in both buffers or not
  copied_set : (c : Content) → Stores t c → (e : Held) → find linkage k c.sets ≡ some e → (l : IdSet) → e.shown ≡ some l
      → copied_as r ms js ≡ copy_set e (some l) ns ks → CopyAnswer t k ns ks r ms js
  unfolding copy_set number_of
  copied_set c s e h l g a =
      cases_bool (ltb (length ns) (length l.items) || ltb (length ks) (length l.items))
      (λ b. let u = uncopied NotCopied.ShortBuffer ns ks r ms js (rw b at a) in
      short_buffer c s e h l g
      (or_cases (ltb (length ns) (length l.items)) (ltb (length ks) (length l.items)) b (λ x. inl (ltb-true _ _ x)) (λ x. inr (ltb-true _ _ x)))
      u.0 u.1)
      (λ b.
      let o : told outcome_of r ≡ Done = sym (told_copied r ms js) ∙ ap (λ (y : Outcomes.Copied). y.outcome) (rw b at a) in
      let z = copied_done r o in
      done c s e h l g (ltb-false _ _ (or_false_left (ltb (length ns) (length l.items)) (ltb (length ks) (length l.items)) b))
      (ltb-false _ _ (or_false_right (ltb (length ns) (length l.items)) (ltb (length ks) (length l.items)) b))
      (ap number_of o) z.0 z.1)

  pub copy_out_answers : CopiesOut t k ns ks r ms js → CopyAnswer t k ns ks r ms js
  unfolding copy_out copy_held copy_set number_of
  copy_out_answers (stored c f p a) =
      cases-option (find linkage k c.sets)
      (λ h. let u = uncopied NotCopied.NotHeld ns ks r ms js (a ∙ ap (λ (o : Option Held). copy_held o ns ks) h) in not_held c (f, p) h u.0 u.1)
      (λ e h.
      let q : copied_as r ms js ≡ copy_set e e.shown ns ks = a ∙ ap (λ (o : Option Held). copy_held o ns ks) h in
      cases-option e.shown
      (λ n. let u = uncopied NotCopied.NotShown ns ks r ms js (q ∙ ap (λ (o : Option IdSet). copy_set e o ns ks) n) in not_shown c (f, p) e h n u.0 u.1)
      (λ l n. copied_set c (f, p) e h l n (q ∙ ap (λ (o : Option IdSet). copy_set e o ns ks) n)))
  copy_out_answers (not_stored n a) = let u = uncopied NotCopied.WrongTable ns ks r ms js a in wrong_table n u.0 u.1

  -- a refusal leaves both buffers as they were
  pub copy_out_refused : CopyAnswer t k ns ks r ms js → (number_of (told outcome_of r) ≡ 0 → ⊥) → (ms ≡ ns) × (js ≡ ks)
  copy_out_refused (done c s e f l g n m o z w) h = absurd (h o)
  copy_out_refused (not_held c s f o u) h = (u.numbers, u.kinds)
  copy_out_refused (not_shown c s e f g o u) h = (u.numbers, u.kinds)
  copy_out_refused (short_buffer c s e f l g b o u) h = (u.numbers, u.kinds)
  copy_out_refused (wrong_table s o u) h = (u.numbers, u.kinds)

-- ---- the totals: 0 or 9

pub data CountAnswer (t : Table) (r : Result Totals Uncounted.WrongTable) : Type 0 where
  -- 0: the sums over the sets that are shown
  done : (c : Content) → Stores t c → number_of (told (λ why. WrongTable) r) ≡ 0 → r ≡ Ok (totals_of c) → CountAnswer t r
  -- 9: none
  wrong_table : (Stored t → ⊥) → number_of (told (λ why. WrongTable) r) ≡ 9 → r ≡ Err no_totals_told → CountAnswer t r

pub totals_answers : (t : Table) (r : Result Totals Uncounted.WrongTable) → Counts t r → CountAnswer t r
unfolding number_of
totals_answers t r (stored c f p a) = done c (f, p) (ap (λ (x : Result Totals Uncounted.WrongTable). number_of (told (λ why. WrongTable) x)) a) a
totals_answers t r (not_stored n a) = wrong_table n (ap (λ (x : Result Totals Uncounted.WrongTable). number_of (told (λ why. WrongTable) x)) a) a
