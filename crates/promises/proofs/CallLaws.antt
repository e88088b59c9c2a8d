-- Laws of calls. In order: one call of read_block, of forget_key, of
-- copy_out; which replies say that a set came to be shown.
use Prim.Native.Nat.{ℕ, zero, suc, ◌≤◌}
use native.Mathlib.Omega.{arith}
use mathlib.Core.Path.{◌≡◌, refl, sym, ap, ◌∙◌, subst}
use mathlib.Core.Bool.{Bool}
use mathlib.Core.List.{List, [], ◌∷◌, map, map-map}
use mathlib.Core.Option.{Option, some}
use lib.ListN.{length, get_elem?, length-map}
use borrow.Author.Tests.{le-ltb}
use Rattle.rules.specs.declared.Outcome.TheVariants.{Done}
use Rattle.rules.specs.declared.Note.{Note}
use Rattle.rules.specs.declared.Note.TheVariants.{Opened, ShownAndOpened, Added, NoOpenList, Full, TooLong, StateOnly, UnknownKey, Dropped}
use Rattle.rules.specs.Family.{find}
use Rattle.rules.specs.Collecting.{linkage, IdSet, Held, Content, next_block, Shown, most_ids}
use Rattle.rules.specs.Outcomes as Outcomes
use Rattle.rules.specs.Outcomes.{number_of, note_number, Verdict, taken, refused, no_block, verdict, answer_to, read_block, copy_set, copy_held, copy_out}
use Rattle.rules.specs.Receptions.{ShowsIn}
use Rattle.promises.specs.Demand3.{Operation, block, forgetting, after_one, fields_in, said_by, ShowsAt}
use Rattle.rules.proofs.Basics.{none_some, Within}
use Rattle.rules.proofs.FamilyLaws.{every_found}
use Rattle.rules.proofs.Arrays.{take_padded}
use Rattle.rules.proofs.TableRules.{SetMeets, EntryMeets, table_meets_law, sets_meet_law}
use Rattle.rules.proofs.LinkageLaws.{meets_block, forget_keeps}
use Rattle.promises.proofs.Better.{noted_shown, shown_noted}
use Rattle.table.specs.declared.Table.{Table}
use Rattle.table.specs.declared.Forgotten.{Forgotten}
use Rattle.table.specs.declared.Copied.{Copied}
use Rattle.table.specs.declared.NotCopied.{NotCopied}
use Rattle.table.specs.Answers.{forgotten_as, outcome_of}
use Rattle.table.proofs.GivenLaws.{given_content}
use Rattle.reading.specs.declared.Answer.{Answer}
use Rattle.reading.specs.Steps.{store_notes, noted_as}
use Rattle.reading.specs.Runs.{run_as}
use Rattle.std.specs.Prelude.{Result}
use Rattle.promises.proofs.Contracts.{told, ReadsBlock, Forgets, CopiesOut}
use Rattle.promises.proofs.Single.{copied_apart}
use Rattle.promises.proofs.Answers.{Stores, told_copied}
use Rattle.promises.proofs.Calls.{Reply, number_noted, block_reply, forget_reply, OfBytes, NotedShown, reply_to, replies_to}
use Rattle.rules.proofs.HeldKeys.{Showing}
use Rattle.promises.proofs.Receptions.{map_at}

-- ---- one call

-- the notes that are read off are those that were stored
pub reply_stored : (a : Outcomes.Answer) → block_reply (run_as a) ≡ record { outcome = number_of a.outcome; place = a.place; notes = map note_number a.notes }
unfolding block_reply run_as store_notes number_noted noted_as
reply_stored a =
    ap (λ (ns : List ℕ). record { outcome = number_of a.outcome; place = a.place; notes = ns })
    (ap (map number_noted) (take_padded 14 (noted_as Opened) (map noted_as a.notes) (length a.notes) (length-map a.notes noted_as))
    ∙ map-map number_noted noted_as a.notes)

pub read_call : {t : Table} (c : Content) (fib : List ℕ) (r : Answer) → Stores t c → OfBytes (block fib) → ReadsBlock t fib r
    → Stores r.table (after_one c (block fib)) × (block_reply r ≡ reply_to c (block fib))
unfolding after_one reply_to run_as
read_call c fib r s b x =
    let e : r ≡ run_as (read_block c fib) = given_content c s.0 s.1 x in (
      (meets_block c fib b s.0, ap (λ (a : Answer). a.table) e),
      ap block_reply e ∙ reply_stored (read_block c fib),
    )

pub forget_call : {t : Table} (c : Content) (k : ℕ) (r : Forgotten) → Stores t c → Forgets t k r
    → Stores r.table (after_one c (forgetting k)) × (forget_reply r ≡ reply_to c (forgetting k))
unfolding after_one reply_to forget_reply forgotten_as
forget_call c k r s x =
    let e : r ≡ forgotten_as k c = given_content c s.0 s.1 x in
    ((forget_keeps k c s.0, ap (λ (a : Forgotten). a.table) e), ap forget_reply e)

-- copying out sees of a content what it holds of the key
pub copy_call : {u v : Table} (k : ℕ) (c d : Content) (ns ks : List ℕ) (r q : Result Copied NotCopied) (nr kr nq kq : List ℕ) → Stores u c → Stores v d
    → find linkage k c.sets ≡ find linkage k d.sets → CopiesOut u k ns ks r nr kr → CopiesOut v k ns ks q nq kq → (r ≡ q) × (nr ≡ nq) × (kr ≡ kq)
unfolding copy_out
copy_call k c d ns ks r q nr kr nq kq s z e x y =
    copied_apart r q nr kr nq kq (given_content c s.0 s.1 x ∙ ap (λ (o : Option Held). copy_held o ns ks) e ∙ sym (given_content d z.0 z.1 y))

-- a set that is shown is copied out, where both buffers have 128 places
pub copy_shown : {u : Table} (k : ℕ) (c : Content) (ns ks : List ℕ) (r : Result Copied NotCopied) (nr kr : List ℕ) → Stores u c → Showing linkage (find linkage k c.sets)
    → most_ids ≤ length ns → most_ids ≤ length ks → CopiesOut u k ns ks r nr kr → number_of (told outcome_of r) ≡ 0
unfolding copy_out copy_held copy_set number_of
copy_shown k c ns ks r nr kr s x n m y =
    let meets = subst (Within EntryMeets) x.found (every_found linkage EntryMeets k c.sets ((table_meets_law c.sets).0 (sets_meet_law c s.0)).entries) in
    let short = (subst (Within (SetMeets x.held.key)) x.shown meets.1.0).short in
    let held = ap (λ (o : Option Held). copy_held o ns ks) x.found in
    let e = given_content c s.0 s.1 y ∙ held ∙ ap (λ (o : Option IdSet). copy_set x.held o ns ks) x.shown in
    let size = length x.set.items in
    sym (ap number_of (told_copied r nr kr)) ∙ ap (λ (z : Outcomes.Copied). number_of z.outcome) (rw (le-ltb (length ns) size (omega arith), le-ltb (length ks) size (omega arith)) at e)

-- ---- replies and what comes to be shown

-- number 2 is that note's alone
pub note_two : (n : Note) → note_number n ≡ 2 → n ≡ ShownAndOpened
unfolding note_number
note_two Opened e = absurd (omega arith)
note_two ShownAndOpened e = refl
note_two Added e = absurd (omega arith)
note_two NoOpenList e = absurd (omega arith)
note_two Full e = absurd (omega arith)
note_two TooLong e = absurd (omega arith)
note_two StateOnly e = absurd (omega arith)
note_two UnknownKey e = absurd (omega arith)
note_two Dropped e = absurd (omega arith)

pub noted_two : (ns : List Note) (j : ℕ) → get_elem? (map note_number ns) j ≡ some 2 → get_elem? ns j ≡ some ShownAndOpened
noted_two [] j h = none_some refl h
noted_two (n ∷ ns) zero h = let e : note_number n ≡ 2 = cc in ap some (note_two n e)
noted_two (n ∷ ns) (suc j) h = noted_two ns j h

pub two_noted : (ns : List Note) (j : ℕ) → get_elem? ns j ≡ some ShownAndOpened → get_elem? (map note_number ns) j ≡ some 2
unfolding note_number
two_noted ns j h = map_at note_number ns j ShownAndOpened h

-- note 2 at place j of reply i says that a set came to be shown at field j of operation i
pub reply_shows : (c : Content) (ops : List Operation) (i j : ℕ) → NotedShown (replies_to c ops) i j → (s : Shown) × ShowsAt c ops i j s
unfolding replies_to reply_to ShowsAt
reply_shows c [] i j x = none_some refl x.there
reply_shows c (o ∷ os) (suc i) j x = reply_shows (after_one c o) os i j (record { reply = x.reply; there = x.there; noted = x.noted })
reply_shows c (block fib ∷ os) zero j x =
    let e = x.there in
    let q : reply_to c (block fib) ≡ x.reply = cc in
    noted_shown c fib os j (noted_two (read_block c fib).notes j (ap (λ (r : Reply). get_elem? r.notes j) q ∙ x.noted))
reply_shows c (forgetting k ∷ os) zero j x =
    let e = x.there in
    let q : reply_to c (forgetting k) ≡ x.reply = cc in
    none_some refl (ap (λ (r : Reply). get_elem? r.notes j) q ∙ x.noted)

-- a block at a field of which a set came to be shown was taken
pub shows_done : (c : Content) (v : Verdict) (j k : ℕ) (on : Bool) (l : IdSet) → ShowsIn linkage c.sets (fields_in (next_block c.blocks) v) j k on l
    → (answer_to c v).outcome ≡ Done
unfolding answer_to fields_in ShowsIn
shows_done c (taken fs) j k on l h = refl
shows_done c (refused o p) j k on l h = absurd h
shows_done c no_block j k on l h = absurd h

-- and where one came to be shown, it says so, with outcome 0
pub shows_reply : (c : Content) (ops : List Operation) (i j : ℕ) (s : Shown) → ShowsAt c ops i j s
    → (r : NotedShown (replies_to c ops) i j) × (r.reply.outcome ≡ 0)
unfolding replies_to reply_to ShowsAt said_by ShowsIn number_of read_block
shows_reply c [] i j s h = absurd h
shows_reply c (o ∷ os) (suc i) j s h =
    let x = shows_reply (after_one c o) os i j s h in
    (record { reply = x.0.reply; there = x.0.there; noted = x.0.noted }, x.1)
shows_reply c (block fib ∷ os) zero j s h = (
  record { reply = reply_to c (block fib); there = refl; noted = two_noted (read_block c fib).notes j (shown_noted c fib os j s h) },
  ap number_of (shows_done c (verdict fib) j s.key s.on s.set h),
)
shows_reply c (forgetting k ∷ os) zero j s h = absurd h
