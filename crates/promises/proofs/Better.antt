-- Better reception never contradicts worse: each set that the worse reception comes to show at some field, the better one comes
-- to show at that field. It is the promise over a family (rules/proofs/Better.antt). In this order: an operation as one of the family's; the count; a
-- reception as one of the family's; what comes to be shown, and the notes; the promise. That its premises are needed is shown in Needed.antt.
use Prim.Native.Nat.{ℕ, zero, suc, ◌≤◌}
use mathlib.Core.Path.{◌≡◌, refl, sym, ◌∙◌, ap, ap₂, subst}
use mathlib.Core.Bool.{Bool, true, false, cond}
use mathlib.Core.List.{List, [], ◌∷◌, ◌++◌, map}
use mathlib.Core.Option.{some}
use lib.ListN.{length, get_elem?}
use lib.Dec.{eqb}
use borrow.Author.Tests.{eqb-true, eq-eqb}
use Rattle.rules.specs.declared.Outcome.TheVariants.{CheckFails}
use Rattle.rules.specs.declared.Note.{Note}
use Rattle.rules.specs.declared.Note.TheVariants.{ShownAndOpened}
use Rattle.rules.specs.Block.{check_holds}
use Rattle.rules.specs.Family.{steps}
use Rattle.rules.specs.Collecting.{linkage, IdSet, Entries, Content, next_block, act_of, said, meets, Shown, most_keys}
use Rattle.rules.specs.Outcomes.{Verdict, taken, refused, no_block, verdict, answer_to, read_block, forgotten}
use Rattle.rules.specs.Field.{Field, key_of}
use Rattle.rules.specs.Receptions.{if_start, started_keys, ShowsIn, Op, takes, refuses, ignores, forgets, after_op, said_in, WorseRun, ends, keeps, loses, ShowsRun, started_run, keys_run}
use Rattle.promises.specs.Demand3.{Operation, block, forgetting, after_one, fields_in, said_by, Worse, over, same, spoilt, ShowsAt, started_by, key_count}
use Rattle.promises.specs.Numbers.{is_block}
use Rattle.rules.proofs.Basics.{cases_bool}
use Rattle.rules.proofs.Leads.{shows_noted, noted_shows}
use Rattle.rules.proofs.Better.{run_single, better_run}
use Rattle.rules.proofs.TableRules.{lawful, table_meets_law, sets_meet_law}
use Rattle.rules.proofs.LinkageLaws.{cases-verdict, Refusal, full_refusal}

-- ---- an operation as one of the family's

-- with the number of its block
unfoldable pub op_in : ℕ → Verdict → Op linkage
op_in n (taken fs) = takes (map (said n) fs)
op_in n (refused o p) = refuses
op_in n no_block = ignores

unfoldable pub op_of : ℕ → Operation → Op linkage
op_of n (block fib) = op_in n (verdict fib)
op_of n (forgetting k) = forgets k

pub answer_op : (t : Content) (v : Verdict) → (answer_to t v).left.sets ≡ after_op linkage t.sets (op_in (next_block t.blocks) v)
unfolding answer_to after_op op_in
answer_op t (taken fs) = refl
answer_op t (refused o p) = refl
answer_op t no_block = refl

pub after_op_law : (t : Content) (o : Operation) → (after_one t o).sets ≡ after_op linkage t.sets (op_of (next_block t.blocks) o)
unfolding after_one op_of read_block forgotten
after_op_law t (block fib) = answer_op t (verdict fib)
after_op_law t (forgetting k) = unfold after_op in refl

pub fields_op : (n : ℕ) (v : Verdict) → fields_in n v ≡ said_in linkage (op_in n v)
unfolding fields_in said_in op_in
fields_op n (taken fs) = refl
fields_op n (refused o p) = refl
fields_op n no_block = refl

pub said_op : (n : ℕ) (o : Operation) → said_by n o ≡ said_in linkage (op_of n o)
unfolding said_by op_of
said_op n (block fib) = fields_op n (verdict fib)
said_op n (forgetting k) = unfold said_in in refl

-- ---- the count

-- after an operation
unfoldable pub count_after : ℕ → Operation → ℕ
count_after n o = cond (is_block o) (next_block n) n

full_count : (t : Content) (fib : List ℕ) (v : Verdict) → Refusal fib v → (answer_to t v).left.blocks ≡ next_block t.blocks
unfolding answer_to
full_count t fib (taken fs) r = refl
full_count t fib (refused o p) r = refl
full_count t fib no_block r = absurd r

-- what has not 32 bytes is no block
pub short_verdict : (fib : List ℕ) → eqb (length fib) 32 ≡ false → verdict fib ≡ no_block
unfolding verdict
short_verdict fib l = rw l

pub after_count : (t : Content) (o : Operation) → (after_one t o).blocks ≡ count_after t.blocks o
unfolding after_one count_after is_block read_block forgotten
after_count t (block fib) =
    cases_bool (eqb (length fib) 32)
    (λ l. rw l (full_count t fib (verdict fib) (full_refusal fib (eqb-true _ _ l))))
    (λ l. rw l (ap (λ (v : Verdict). (answer_to t v).left.blocks) (short_verdict fib l) ∙ unfold answer_to in refl))
after_count t (forgetting k) = refl

-- a reception, its blocks numbered on
unfoldable pub ops_of : ℕ → List Operation → List (Op linkage)
ops_of n [] = []
ops_of n (o ∷ os) = op_of (next_block n) o ∷ ops_of (count_after n o) os

-- a block of 32 bytes is counted
pub block_count : (n : ℕ) (b : List ℕ) → length b ≡ 32 → count_after n (block b) ≡ next_block n
unfolding count_after is_block
block_count n b l = rw (eq-eqb (length b) 32 l)

-- a block of 32 bytes with a failing check has no fields, and is refused
pub spoilt_refused : (c : List ℕ) → length c ≡ 32 → check_holds c ≡ false → verdict c ≡ refused CheckFails 0
unfolding verdict
spoilt_refused c l h = rw (eq-eqb (length c) 32 l) (rw h)

pub spoilt_op : (n : ℕ) (c : List ℕ) → length c ≡ 32 → check_holds c ≡ false → op_of n (block c) ≡ refuses
unfolding op_of op_in
spoilt_op n c l h = rw (spoilt_refused c l h)

pub spoilt_shows : (c : List ℕ) (t : Content) (j k : ℕ) (on : Bool) (l : IdSet) → length c ≡ 32 → check_holds c ≡ false
    → ShowsIn linkage t.sets (said_by (next_block t.blocks) (block c)) j k on l → ⊥
unfolding said_by fields_in ShowsIn
spoilt_shows c t j k on l n h sh = rw (spoilt_refused c n h) at sh

-- ---- a reception as one of the family's

-- a block of 32 bytes is taken or refused, so that one with a failing check in its place makes a reception worse
pub worse_block : {bs ws : List (Op linkage)} (n : ℕ) (b : List ℕ) → length b ≡ 32 → WorseRun linkage bs ws
    → WorseRun linkage (op_of n (block b) ∷ bs) (refuses ∷ ws)
unfolding op_of op_in
worse_block n b l r =
    cases-verdict (verdict b) (λ fs e. rw e (loses (map (said n) fs) r)) (λ o p e. rw e (keeps refuses r))
    (λ e. absurd (subst (Refusal b) e (full_refusal b l)))

pub worse_run : {better worse : List Operation} (n : ℕ) → Worse better worse → WorseRun linkage (ops_of n better) (ops_of n worse)
unfolding ops_of
worse_run n over = ends
worse_run n (same o r) = keeps (op_of (next_block n) o) (worse_run (count_after n o) r)
worse_run n (spoilt b c lb lc h r) =
    rw (spoilt_op (next_block n) c lc h, block_count n b lb, block_count n c lc) (worse_block (next_block n) b lb (worse_run (next_block n) r))

pub shows_run : (t : Content) (ops : List Operation) (i j : ℕ) (s : Shown)
    → ShowsAt t ops i j s ≡ ShowsRun linkage t.sets (ops_of t.blocks ops) i j s.key s.on s.set
unfolding ShowsAt ShowsRun ops_of
shows_run t [] i j s = refl
shows_run t (o ∷ os) zero j s = rw (said_op (next_block t.blocks) o)
shows_run t (o ∷ os) (suc i) j s =
    shows_run (after_one t o) os i j s
    ∙ ap₂ (λ (n : ℕ) (e : Entries). ShowsRun linkage e (ops_of n os) i j s.key s.on s.set) (after_count t o) (after_op_law t o)

-- started keys do not depend on numbers
started_said : (n m : ℕ) (fs : List Field) → started_keys linkage (map (said n) fs) ≡ started_keys linkage (map (said m) fs)
unfolding started_keys said
started_said n m [] = refl
started_said n m (f ∷ fs) = ap (λ (ks : List ℕ). if_start linkage (act_of f) (key_of f) ks) (started_said n m fs)

started_in : (n m : ℕ) (v : Verdict) → started_keys linkage (fields_in n v) ≡ started_keys linkage (fields_in m v)
unfolding fields_in
started_in n m (taken fs) = started_said n m fs
started_in n m (refused o p) = refl
started_in n m no_block = refl

started_op : (n m : ℕ) (o : Operation) → started_keys linkage (said_by n o) ≡ started_keys linkage (said_by m o)
unfolding said_by
started_op n m (block fib) = started_in n m (verdict fib)
started_op n m (forgetting k) = refl

pub started_run_law : (n : ℕ) (ops : List Operation) → started_by ops ≡ started_run linkage (ops_of n ops)
unfolding started_by started_run ops_of
started_run_law n [] = refl
started_run_law n (o ∷ os) =
    ap₂ ◌++◌ (started_op 0 (next_block n) o ∙ ap (started_keys linkage) (said_op (next_block n) o)) (started_run_law (count_after n o) os)

pub keys_run_law : (t : Content) (n : ℕ) (ops : List Operation) → key_count t ops ≡ keys_run linkage t.sets (ops_of n ops)
unfolding key_count keys_run
keys_run_law t n ops = rw (started_run_law n ops)

-- ---- what comes to be shown, and the notes of a block

pub notes_in : (t : Content) (v : Verdict) → (answer_to t v).notes ≡ (steps linkage t.sets (fields_in (next_block t.blocks) v)).1
unfolding answer_to fields_in steps
notes_in t (taken fs) = refl
notes_in t (refused o p) = refl
notes_in t no_block = refl

-- a block comes to show a set at a field exactly where that field's note says so
pub shown_noted : (t : Content) (fib : List ℕ) (os : List Operation) (j : ℕ) (s : Shown) → ShowsAt t (block fib ∷ os) 0 j s
    → get_elem? (read_block t fib).notes j ≡ some ShownAndOpened
unfolding ShowsAt said_by read_block
shown_noted t fib os j s sh =
    rw (notes_in t (verdict fib)) (shows_noted linkage lawful t.sets (fields_in (next_block t.blocks) (verdict fib)) j s.key s.on s.set sh)

pub noted_shown : (t : Content) (fib : List ℕ) (os : List Operation) (j : ℕ) → get_elem? (read_block t fib).notes j ≡ some ShownAndOpened
    → (s : Shown) × ShowsAt t (block fib ∷ os) 0 j s
unfolding ShowsAt said_by read_block
noted_shown t fib os j h =
    let r = noted_shows linkage lawful t.sets (fields_in (next_block t.blocks) (verdict fib)) j (sym (ap (λ (ns : List Note). get_elem? ns j) (notes_in t (verdict fib))) ∙ h) in
    (record { key = r.0; on = r.1; set = r.2 }, r.3)

-- at one field one set
pub shown_single : (t : Content) (ops : List Operation) (i j : ℕ) (s s' : Shown) → ShowsAt t ops i j s → ShowsAt t ops i j s' → s ≡ s'
shown_single t ops i j s s' a b =
    let r = run_single linkage lawful t.sets (ops_of t.blocks ops) i j s.key s'.key s.on s'.on s.set s'.set
    (rw (shows_run t ops i j s) at a) (rw (shows_run t ops i j s') at b) in
    λ i. record { key = r.0 i; on = r.1 i; set = r.2 i }

-- ---- the promise

-- THE promise: from one table that meets the rules, where the keys held at the beginning or started in the better reception
-- are at most 32
pub better_never_contradicts : (t : Content) (better worse : List Operation) → meets t ≡ true → Worse better worse → key_count t better ≤ most_keys
    → (i j : ℕ) (s : Shown) → ShowsAt t worse i j s → ShowsAt t better i j s
better_never_contradicts t better worse m r n i j s sh =
    rw (shows_run t better i j s)
    (better_run linkage lawful t.sets (ops_of t.blocks better) (ops_of t.blocks worse) ((table_meets_law t.sets).0 (sets_meet_law t m)).ascend (worse_run t.blocks r)
    (rw (keys_run_law t t.blocks better) at n) i j s.key s.on s.set (rw (shows_run t worse i j s) at sh))
