-- Numbers of blocks (document 02, R-9). In order: the count after a reception; a field's number; after any reception a shown set has the number
-- of the block at which it last came to be shown; the same of runs of calls, on what copy_out gives; two receptions, one worse, count alike; a
-- number above the count, and a number without a set, are 9; what is loaded has none.
use Prim.Native.Nat.{ℕ, zero, suc, ◌+◌, ◌≤◌, ◌<◌, min}
use native.Mathlib.Omega.{arith}
use mathlib.Core.Path.{◌≡◌, refl, sym, ap, ◌∙◌, subst}
use mathlib.Core.Bool.{Bool, true, ◌||◌}
use mathlib.Core.List.{List, [], ◌∷◌, map}
use mathlib.Core.Option.{Option, some}
use lib.ListN.{length, get_or, take, get_elem?}
use lib.Dec.{leb, ltb, eqb}
use borrow.Author.Tests.{leb-true}
use Rattle.rules.specs.declared.Outcome.{Outcome}
use Rattle.rules.specs.Block.{bit}
use Rattle.rules.specs.Field.{Field}
use Rattle.rules.specs.Family.{Said, find}
use Rattle.rules.specs.Receptions.{said_in}
use Rattle.rules.specs.Collecting.{linkage, IdSet, Held, Content, nothing, next_block, said, meets, most_keys, most_blocks}
use Rattle.rules.specs.Outcomes as Outcomes
use Rattle.rules.specs.Outcomes.{number_of, Verdict, taken, refused, no_block, verdict, not_copied, copy_set, copy_held, copy_out}
use Rattle.rules.specs.Numbers.{field_at, LastShown}
use Rattle.rules.specs.Numbers as Over
use Rattle.promises.specs.Demand3.{Operation, block, forgetting, after_one, Worse, over, same, spoilt, ShowsAt}
use Rattle.promises.specs.Numbers.{is_block, blocks_in, number_at, LastConfirmed, earlier, shown}
use Rattle.rules.proofs.Basics.{cases_bool, cases-option, none_some, and_left, and_right}
use Rattle.rules.proofs.TableRules.{lawful, table_meets_law, content_meets, sets_meet_law}
use Rattle.rules.proofs.Numbers.{last_shown}
use Rattle.layout.specs.Sheet.{just_shown, Load, accepted, not_a_sheet}
use Rattle.sets.specs.Stored.{past, NumbersHold}
use Rattle.sets.proofs.SetsLaws.{stored_facts}
use Rattle.table.specs.declared.Table.{Table}
use Rattle.table.specs.declared.Copied.{Copied}
use Rattle.table.specs.Stored.{Stored, Given, stored, not_stored}
use Rattle.table.specs.Answers.{copied_as, all_within}
use Rattle.table.proofs.GivenLaws.{given_content, numbers_stored, sets_stored}
use Rattle.sheet.specs.declared.Loaded.{Loaded}
use Rattle.sheet.specs.Loading.{Loads}
use Rattle.std.specs.Prelude.{Ok}
use Rattle.promises.proofs.Contracts.{CopiesOut}
use Rattle.promises.proofs.Answers.{Stores}
use Rattle.promises.proofs.Better.{op_in, op_of, short_verdict, count_after, after_count, ops_of, shows_run}
use Rattle.promises.proofs.Calls.{after_all}
use Rattle.promises.proofs.Kept.{load_sheet_meets}
use Rattle.promises.proofs.Receptions.{after_run}

-- ---- the count

-- counted on, and no further than its stop
count_on : (n : ℕ) (o : Operation) (m : ℕ) → min (count_after n o + m) most_blocks ≡ min (n + (bit (is_block o) + m)) most_blocks
unfolding count_after next_block bit
count_on n o m = cases_bool (is_block o) (λ b. rw b (omega arith)) (λ b. rw b (omega arith))

-- after a reception: as many blocks more as there were of 32 bytes
pub count_is : (c : Content) (ops : List Operation) → c.blocks ≤ most_blocks → (after_all c ops).blocks ≡ min (c.blocks + blocks_in ops) most_blocks
unfolding after_all blocks_in
count_is c [] h = omega arith
count_is c (o ∷ os) h =
    count_is (after_one c o) os (rw (after_count c o) (within c.blocks o h))
    ∙ ap (λ (n : ℕ). min (n + blocks_in os) most_blocks) (after_count c o) ∙ count_on c.blocks o (blocks_in os)
  where
    within : (n : ℕ) (o : Operation) → n ≤ most_blocks → count_after n o ≤ most_blocks
    within n o h = unfold count_after next_block in cases_bool (is_block o) (λ b. rw b (omega arith)) (λ b. rw b h)

-- ---- a field's number

said_number : (n : ℕ) (fs : List Field) (j : ℕ) (f : Said linkage) → get_elem? (map (said n) fs) j ≡ some f → f.stamp ≡ n
unfolding said
said_number n [] j f h = none_some refl h
said_number n (g ∷ fs) zero f h = let e : said n g ≡ f = cc in sym (ap (λ (x : Said linkage). x.stamp) e)
said_number n (g ∷ fs) (suc j) f h = said_number n fs j f h

in_block : (n j : ℕ) (f : Said linkage) (v : Verdict) → get_elem? (said_in linkage (op_in n v)) j ≡ some f → f.stamp ≡ n
unfolding op_in said_in
in_block n j f (taken fs) h = said_number n fs j f h
in_block n j f (refused o p) h = none_some refl h
in_block n j f no_block h = none_some refl h

-- of an operation: it is a block of 32 bytes, and has its number
op_number : (n : ℕ) (o : Operation) (j : ℕ) (f : Said linkage) → get_elem? (said_in linkage (op_of n o)) j ≡ some f → (f.stamp ≡ n) × (is_block o ≡ true)
unfolding op_of op_in said_in is_block
op_number n (block fib) j f h =
    cases_bool (eqb (length fib) 32)
    (λ l. (in_block n j f (verdict fib) h, l))
    (λ l. none_some (ap (λ (v : Verdict). get_elem? (said_in linkage (op_in n v)) j) (short_verdict fib l)) h)
op_number n (forgetting k) j f h = none_some refl h

field_number : (n : ℕ) (ops : List Operation) (i j : ℕ) (f : Said linkage) → n ≤ most_blocks → field_at linkage (ops_of n ops) i j ≡ some f → f.stamp ≡ number_at n ops i
unfolding field_at ops_of number_at blocks_in
field_number n [] i j f h e = none_some refl e
field_number n (o ∷ os) zero j f h e =
    let r = op_number (next_block n) o j f e in
    r.0 ∙ unfold next_block bit in rw r.1 (omega arith)
field_number n (o ∷ os) (suc i) j f h e =
    field_number (count_after n o) os i j f (within o) e ∙ count_on n o (blocks_in (take (suc i) os))
  where
    within : (o : Operation) → count_after n o ≤ most_blocks
    within o = unfold count_after next_block in cases_bool (is_block o) (λ b. rw b (omega arith)) (λ b. rw b h)

-- ---- the number of a shown set

pub last_confirmed : (c : Content) (ops : List Operation) (k : ℕ) (x : Held) (l : IdSet) → meets c ≡ true → find linkage k (after_all c ops).sets ≡ some x
    → x.shown ≡ some l → LastConfirmed c ops k l x.stamp
last_confirmed c ops k x l m h g =
    from (last_shown linkage lawful c.sets (ops_of c.blocks ops) k x l ((table_meets_law c.sets).0 (sets_meet_law c m)).ascend (rw (after_run c ops) at h) g)
  where
    from : LastShown linkage c.sets (ops_of c.blocks ops) k l x.stamp → LastConfirmed c ops k l x.stamp
    from (Over.earlier e a b p n) = earlier e a b p (λ i j on q sh. n i j on q (rw (shows_run c ops i j (record { key = k; on = on; set = q })) at sh))
    from (Over.shown i j on f sh at p n) =
        shown i j on (rw (shows_run c ops i j (record { key = k; on = on; set = l })) sh)
        (sym p ∙ field_number c.blocks ops i j f ((content_meets c).0 m).most at)
        (λ i' j' on' q late sh'. n i' j' on' q late (rw (shows_run c ops i' j' (record { key = k; on = on'; set = q })) at sh'))

-- ---- what copy_out gives

-- of a shown set, its number
copied_set : (e : Held) (l : IdSet) (ns ks : List ℕ) (r : Copied) (ms js : List ℕ) → copied_as (Ok r) ms js ≡ copy_set e (some l) ns ks
    → r.confirmed ≡ e.stamp
unfolding copied_as copy_set not_copied number_of
copied_set e l ns ks r ms js a =
    cases_bool (ltb (length ns) (length l.items) || ltb (length ks) (length l.items))
    (λ b. absurd (omega (arith, ap (λ (x : Outcomes.Copied). number_of x.outcome) (rw b at a))))
    (λ b. ap (λ (x : Outcomes.Copied). x.confirmed) (rw b at a))

copied_held : (c : Content) (k : ℕ) (ns ks : List ℕ) (r : Copied) (ms js : List ℕ) → copied_as (Ok r) ms js ≡ copy_out k c ns ks
    → (x : Held) × (l : IdSet) × (find linkage k c.sets ≡ some x) × (x.shown ≡ some l) × (r.confirmed ≡ x.stamp)
unfolding copied_as copy_out copy_held copy_set not_copied number_of
copied_held c k ns ks r ms js a =
    cases-option (find linkage k c.sets)
    (λ n. absurd (omega (arith, ap (λ (y : Outcomes.Copied). number_of y.outcome) (a ∙ ap (λ (f : Option Held). copy_held f ns ks) n))))
    (λ x n.
    let b = a ∙ ap (λ (f : Option Held). copy_held f ns ks) n in
    cases-option x.shown
    (λ u. absurd (omega (arith, ap (λ (y : Outcomes.Copied). number_of y.outcome) (b ∙ ap (λ (f : Option IdSet). copy_set x f ns ks) u))))
    (λ l u. (x, l, n, u, copied_set x l ns ks r ms js (b ∙ ap (λ (f : Option IdSet). copy_set x f ns ks) u))))

-- of a table in which calls ended: the set that it gives, and the number, are from where the definition says
pub copied_confirmed : {u : Table} (c : Content) (ops : List Operation) → meets c ≡ true → Stores u (after_all c ops)
    → (k : ℕ) (ns ks : List ℕ) (r : Copied) (ms js : List ℕ) → CopiesOut u k ns ks (Ok r) ms js
    → (l : IdSet) × LastConfirmed c ops k l r.confirmed
copied_confirmed c ops m s k ns ks r ms js x =
    let d = copied_held (after_all c ops) k ns ks r ms js (given_content (after_all c ops) s.0 s.1 x) in
    (d.1, subst (LastConfirmed c ops k d.1) (sym d.4) (last_confirmed c ops k d.0 d.1 m d.2 d.3))

-- of a reception from the empty table the set came to be shown in it
pub from_empty : {ops : List Operation} {k : ℕ} {l : IdSet} {n : ℕ} → LastConfirmed nothing ops k l n
    → (i : ℕ) × (j : ℕ) × (on : Bool) × ShowsAt nothing ops i j (record { key = k; on = on; set = l }) × (n ≡ number_at 0 ops i)
unfolding find
from_empty (earlier e a b p n) = none_some refl a
from_empty (shown i j on sh e n) = (i, j, on, sh, e)

-- ---- two receptions

-- a block with a failing check counts like the one in whose place it came
pub worse_counts : {better worse : List Operation} (n : ℕ) → Worse better worse → blocks_in (take n better) ≡ blocks_in (take n worse)
unfolding blocks_in is_block
worse_counts n over = refl
worse_counts zero (same o r) = refl
worse_counts (suc n) (same o r) = ap (λ (k : ℕ). bit (is_block o) + k) (worse_counts n r)
worse_counts zero (spoilt b c lb lc h r) = refl
worse_counts (suc n) (spoilt b c lb lc h r) = rw (lb, lc) (ap (λ (k : ℕ). bit true + k) (worse_counts n r))

pub worse_numbers : {better worse : List Operation} (n i : ℕ) → Worse better worse → number_at n better i ≡ number_at n worse i
unfolding number_at
worse_numbers n i r = ap (λ (k : ℕ). min (n + k) most_blocks) (worse_counts (suc i) r)

-- ---- a table's numbers

all_within_at : (n : ℕ) (xs : List ℕ) (i : ℕ) → all_within n xs ≡ true → get_or xs i 0 ≤ n
all_within_at n [] i h = omega arith
all_within_at n (x ∷ xs) zero h = leb-true x n (and_left (leb x n) (all_within n xs) h)
all_within_at n (x ∷ xs) (suc i) h = all_within_at n xs i (and_right (leb x n) (all_within n xs) h)

-- of every table that meets the rules: none above its own count, and none where no set is shown
pub stored_within : (t : Table) → Stored t → (i : ℕ) → get_or t.sets.confirmed i 0 ≤ t.blocks
stored_within t s i = all_within_at t.blocks t.sets.confirmed i (numbers_stored t s)

pub stored_unshown : (t : Table) → Stored t → (i : ℕ) → i < most_keys → (get_or t.sets.shown i past).len ≡ 0 → get_or t.sets.confirmed i 0 ≡ 0
stored_unshown t s i h z = unfold NumbersHold in (stored_facts t.sets (sets_stored t s)).numbers_hold i h z

-- so another is 9, in every contract
pub number_above : {t : Table} {right : Content → Type 0} {otherwise : Type 0} (i : ℕ) → t.blocks < get_or t.sets.confirmed i 0 → Given t right otherwise → otherwise
unfolding Stored
number_above {t} i h (stored c m e a) = absurd (omega (arith, h, stored_within t (c, m, e) i))
number_above i h (not_stored n a) = a

pub number_alone : {t : Table} {right : Content → Type 0} {otherwise : Type 0} (i : ℕ) → i < most_keys → (get_or t.sets.shown i past).len ≡ 0
    → 0 < get_or t.sets.confirmed i 0 → Given t right otherwise → otherwise
unfolding Stored
number_alone {t} i h z p (stored c m e a) = absurd (omega (arith, p, stored_unshown t (c, m, e) i h z))
number_alone i h z p (not_stored n a) = a

-- ---- loading

load_count : {bytes : List ℕ} {o : Outcome} {c : Content} → Load bytes o c → c.blocks ≡ 0
unfolding just_shown
load_count (accepted a g d oe te) = ap (λ (x : Content). x.blocks) te
load_count (not_a_sheet never oe te) = ap (λ (x : Content). x.blocks) te

-- a loaded table has counted no block, and no set of it has a number
pub load_sheet_unnumbered : (bytes : List ℕ) (r : Loaded) → Loads bytes r → (r.table.blocks ≡ 0) × ((i : ℕ) → get_or r.table.sets.confirmed i 0 ≡ 0)
load_sheet_unnumbered bytes r a =
    let none = ap (λ (t : Table). t.blocks) a.stored ∙ load_count a.load in
    (none, λ i. omega (arith, none, stored_within r.table (load_sheet_meets bytes r a) i))
