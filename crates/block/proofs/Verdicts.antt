-- The answer to a block from what has been found so far, in this order: faults; a field more; a field that does not fit; nothing
-- more to come; nothing found yet; the fields with where they stand are those of the rules; the FIGs of a block, one more at a time.
use Prim.Native.Nat.{ℕ, ◌+◌, ◌≤◌, ◌<◌, min}
use native.Mathlib.Omega.{arith}
use mathlib.Core.Path.{◌≡◌, refl, sym, ap, ap₂, ◌∙◌}
use mathlib.Core.Bool.{Bool, true, false, cond, ◌||◌}
use mathlib.Core.List.{List, [], ◌∷◌, ◌++◌, map, append_assoc, append-nil}
use lib.ListN.{length}
use lib.Dec.{ltb}
use borrow.Author.Tests.{ltb-true, ltb-false, lt-ltb, le-ltb}
use Rattle.std.specs.Prelude.{Option, Some, None, Result}
use Rattle.rules.specs.declared.Outcome.TheVariants.{WrongFig, WrongValue, EmptyStart}
use Rattle.rules.specs.Block.{Placed, what_of, Walk, whole, broken, after, Fig, figs}
use Rattle.rules.specs.Field.{Field as FieldOf, is_linking, fields_of, wrong_value, empty_start}
use Rattle.rules.specs.Outcomes.{number_of, taken, refused, joined, all_fields, some?, first_place, judge_fields, judge_figs}
use Rattle.rules.proofs.Basics.{cond_both, cases_bool}
use Rattle.field.specs.declared.Field.{Field}
use Rattle.field.specs.FieldStep.{meaning}
use Rattle.field.proofs.Laws.{wrong_value_means, empty_start_means}
use Rattle.block.specs.declared.Spots.{Spots}
use Rattle.block.specs.declared.Fault.{Fault}
use Rattle.block.specs.declared.Refused.{Refused}
use Rattle.block.specs.Judged.{fault_by, Located, field_of, map_walk, items_of, standing, located_of, all_located, located, judged_as}
use Rattle.block.specs.Faults.{fault_at, fault_in, number_in, worse, fault_of, faults_of, answer_of, judge_from}
use Rattle.block.proofs.Walks.{map_joined, items_map, walk_back}

-- ---- faults

fault_number : (f : Fault) (p : ℕ) → number_in (fault_at f p) ≤ 6
unfolding number_in number_of
fault_number Fault.NotABlock p = omega arith
fault_number Fault.CheckFails p = omega arith
fault_number Fault.WrongFig p = omega arith
fault_number Fault.WrongField p = omega arith
fault_number Fault.WrongValue p = omega arith
fault_number Fault.EmptyStart p = omega arith

number_most : (a : Option Refused) → number_in a ≤ 7
unfolding number_in
number_most None = omega arith
number_most (Some r) = omega (arith, fault_number r.fault r.place)

-- a fault of no smaller number counts for nothing behind another; one of a smaller number counts
worse_first : (a b : Option Refused) → number_in a ≤ number_in b → worse a b ≡ a
unfolding worse
worse_first a b h = rw (le-ltb (number_in b) (number_in a) h)

worse_second : (a b : Option Refused) → number_in b < number_in a → worse a b ≡ b
unfolding worse
worse_second a b h = rw (lt-ltb (number_in b) (number_in a) h)

-- so its number is the smaller
worse_number : (a b : Option Refused) → number_in (worse a b) ≡ min (number_in a) (number_in b)
worse_number a b =
    cases_bool (ltb (number_in b) (number_in a))
    (λ e. let h = ltb-true (number_in b) (number_in a) e in ap number_in (worse_second a b h) ∙ omega arith)
    (λ e. let h = ltb-false (number_in b) (number_in a) e in ap number_in (worse_first a b h) ∙ omega arith)

-- none counts for nothing, before a fault or behind it
pub worse_none : (a : Option Refused) → worse a None ≡ a
unfolding number_in
worse_none a = worse_first a None (number_most a)

pub none_worse : (b : Option Refused) → worse None b ≡ b
unfolding number_in
none_worse None = worse_first None None (omega arith)
none_worse (Some r) = worse_second None (Some r) (omega (arith, fault_number r.fault r.place))

-- one after another, in whatever order they are compared
worse_assoc : (a b c : Option Refused) → worse a (worse b c) ≡ worse (worse a b) c
worse_assoc a b c =
    cases_bool (ltb (number_in c) (number_in b))
    (λ e. let h = ltb-true (number_in c) (number_in b) e in
    ap (worse a) (worse_second b c h)
    ∙ cases_bool (ltb (number_in b) (number_in a))
    (λ f. let g = ltb-true (number_in b) (number_in a) f in
    worse_second a c (omega arith) ∙ sym (worse_second b c h) ∙ ap (λ (x : Option Refused). worse x c) (sym (worse_second a b g)))
    (λ f. ap (λ (x : Option Refused). worse x c) (sym (worse_first a b (ltb-false (number_in b) (number_in a) f)))))
    (λ e. let h = ltb-false (number_in c) (number_in b) e in
    ap (worse a) (worse_first b c h) ∙ sym (worse_first (worse a b) c (omega (arith, worse_number a b))))

-- the fault of a field of the code is that of the field it means
pub fault_means : (bytes : List ℕ) (f : Field) (place : ℕ) → fault_in f place ≡ fault_of (record { place = place; what = meaning bytes f })
unfolding fault_in fault_of
fault_means bytes f place =
    ap₂ (λ (b c : Bool). cond b (fault_at Fault.WrongValue place) (cond c (fault_at Fault.EmptyStart place) None)) (wrong_value_means bytes f)
    (empty_start_means bytes f)

-- the faults of fields are 5 and 6
fault_of_range : (f : Placed FieldOf) → 5 ≤ number_in (fault_of f)
unfolding fault_of number_in number_of
fault_of_range f =
    cond_both (λ (x : Option Refused). 5 ≤ number_in x) (wrong_value f.what) _ _ (omega arith)
    (cond_both (λ (x : Option Refused). 5 ≤ number_in x) (empty_start f.what) _ _ (omega arith) (omega arith))

faults_of_range : (fs : List (Placed FieldOf)) → 5 ≤ number_in (faults_of fs)
unfolding faults_of number_in number_of
faults_of_range fs =
    cond_both (λ (x : Option Refused). 5 ≤ number_in x) (some? wrong_value fs) _ _ (omega arith)
    (cond_both (λ (x : Option Refused). 5 ≤ number_in x) (some? empty_start fs) _ _ (omega arith) (omega arith))

-- the first fault of the smallest number, by the tests of the first field (a, b) and of the others (c, d)
first_of : (a b c d : Bool) (p q r : ℕ)
    → worse (cond a (fault_at Fault.WrongValue p) (cond b (fault_at Fault.EmptyStart p) None))
    (cond c (fault_at Fault.WrongValue q) (cond d (fault_at Fault.EmptyStart r) None))
    ≡ cond (a || c) (fault_at Fault.WrongValue (cond a p q)) (cond (b || d) (fault_at Fault.EmptyStart (cond b p r)) None)
unfolding worse number_in number_of
first_of true b true d p q r = refl
first_of true b false true p q r = refl
first_of true b false false p q r = refl
first_of false true true d p q r = refl
first_of false true false true p q r = refl
first_of false true false false p q r = refl
first_of false false true d p q r = refl
first_of false false false true p q r = refl
first_of false false false false p q r = refl

faults_more : (f : Placed FieldOf) (fs : List (Placed FieldOf)) → worse (fault_of f) (faults_of fs) ≡ faults_of (f ∷ fs)
unfolding fault_of faults_of some? first_place
faults_more f fs =
    first_of (wrong_value f.what) (empty_start f.what) (some? wrong_value fs) (some? empty_start fs) f.place (first_place wrong_value fs) (first_place empty_start fs)

-- a fault says it all
answer_same : (fault : Option Refused) (ls more : List Located) → number_in fault ≤ 4 → answer_of fault ls ≡ answer_of fault more
unfolding answer_of number_in
answer_same None ls more h = absurd (omega arith)
answer_same (Some r) ls more h = refl

-- a field that does not fit, behind a fault
four_most : (fault : Option Refused) (p : ℕ) → number_in (worse fault (fault_at Fault.WrongField p)) ≤ 4
unfolding number_in number_of
four_most fault p = omega (arith, worse_number fault (fault_at Fault.WrongField p))

four_behind : (a : Option Refused) (p : ℕ) → 5 ≤ number_in a → worse a (fault_at Fault.WrongField p) ≡ fault_at Fault.WrongField p
unfolding number_in number_of
four_behind a p h = worse_second a (fault_at Fault.WrongField p) (omega arith)

-- ---- a field more, found and no longer to come

pub judge_after : (fault : Option Refused) (ls : List Located) (l : Located) (w : Walk Located)
    → judge_from fault ls (after l w) ≡ judge_from (worse fault (fault_of l.field)) (ls ++ l ∷ []) w
unfolding judge_from after
judge_after fault ls l (whole more) =
    ap₂ answer_of (ap (worse fault) (sym (faults_more l.field (map field_of more))) ∙ worse_assoc fault (fault_of l.field) (faults_of (map field_of more)))
    (sym (append_assoc ls (l ∷ []) more))
judge_after fault ls l (broken p) =
    answer_same (worse fault (fault_at Fault.WrongField p)) ls (ls ++ l ∷ []) (four_most fault p)
    ∙ ap (λ (x : Option Refused). answer_of x (ls ++ l ∷ []))
    (ap (worse fault) (sym (four_behind (fault_of l.field) p (fault_of_range l.field))) ∙ worse_assoc fault (fault_of l.field) (fault_at Fault.WrongField p))

-- ---- a field that does not fit: the answer, whatever comes

judge_four : (fault : Option Refused) (ls more : List Located) (w : Walk Located) → number_in fault ≤ 4 → judge_from fault ls w ≡ answer_of fault more
unfolding judge_from number_in number_of
judge_four fault ls more (whole xs) h =
    ap (λ (x : Option Refused). answer_of x (ls ++ xs)) (worse_first fault (faults_of (map field_of xs)) (omega (arith, faults_of_range (map field_of xs))))
    ∙ answer_same fault (ls ++ xs) more h
judge_four fault ls more (broken p) h =
    ap (λ (x : Option Refused). answer_of x ls) (worse_first fault (fault_at Fault.WrongField p) (omega arith)) ∙ answer_same fault ls more h

pub judge_broken : (fault : Option Refused) (ls more : List Located) (p : ℕ) (rest : Walk Located)
    → judge_from fault ls (joined (broken p) rest) ≡ judge_from (worse fault (fault_at Fault.WrongField p)) more rest
unfolding judge_from joined
judge_broken fault ls more p rest =
    sym (judge_four (worse fault (fault_at Fault.WrongField p)) more ls rest (four_most fault p))

-- ---- nothing more to come

judge_none : (fault : Option Refused) (ls : List Located) → judge_from fault ls (whole []) ≡ answer_of fault ls
unfolding judge_from faults_of some?
judge_none fault ls = ap₂ answer_of (worse_none fault) (append-nil ls)

-- ---- nothing found yet

answer_tested : (b c : Bool) (p q : ℕ) (ls : List Located)
    → answer_of (cond b (fault_at Fault.WrongValue p) (cond c (fault_at Fault.EmptyStart q) None)) ls
    ≡ judged_as (cond b (refused WrongValue p) (cond c (refused EmptyStart q) (taken (map what_of (map field_of ls))))) ls
unfolding answer_of judged_as fault_by
answer_tested true c p q ls = refl
answer_tested false true p q ls = refl
answer_tested false false p q ls = refl

judge_first : (w : Walk Located) → judge_from None [] w ≡ judged_as (judge_fields (map_walk field_of w)) (items_of w)
unfolding judge_from judge_fields map_walk items_of judged_as fault_by answer_of faults_of
judge_first (whole ls) =
    let fs = map field_of ls in
    ap (λ (x : Option Refused). answer_of x ls) (none_worse (faults_of fs))
    ∙ answer_tested (some? wrong_value fs) (some? empty_start fs) (first_place wrong_value fs) (first_place empty_start fs) ls
judge_first (broken p) = ap (λ (x : Option Refused). answer_of x []) (none_worse (fault_at Fault.WrongField p))

-- ---- the fields with where they stand are those of the rules

fields_located : (fig : Placed Fig) → map_walk field_of (located_of fig) ≡ fields_of fig
unfolding located_of
fields_located fig = walk_back (standing (fig.place + 1) (fig.place + 1 + length fig.what.body)) field_of (λ f. refl) (fields_of fig)

all_located_law : (gs : List (Placed Fig)) → map_walk field_of (all_located gs) ≡ all_fields gs
unfolding all_located all_fields map_walk
all_located_law [] = refl
all_located_law (fig ∷ gs) =
    cases_bool (is_linking fig.what)
    (λ e. rw e (map_joined field_of (located_of fig) (all_located gs) ∙ ap₂ joined (fields_located fig) (all_located_law gs)))
    (λ e. rw e (all_located_law gs))

-- of a block that is taken
pub located_fields : (fib : List ℕ) (gs : List (Placed Fig)) (fs : List (Placed FieldOf)) → figs fib ≡ whole gs → all_fields gs ≡ whole fs
    → map field_of (located fib) ≡ fs
unfolding located items_of
located_fields fib gs fs w f =
    sym (items_map field_of (all_located (items_of (figs fib))))
    ∙ ap items_of (all_located_law (items_of (figs fib)) ∙ ap (λ (v : Walk (Placed Fig)). all_fields (items_of v)) w ∙ f)

-- ---- the FIGs of a block

-- the answer to a fault and fields found so far, and the FIGs that come after them
unfoldable pub judge_figs_from : Option Refused → List Located → Walk (Placed Fig) → Result Spots Refused
judge_figs_from fault ls (whole gs) = judge_from fault ls (all_located gs)
judge_figs_from fault ls (broken p) = judged_as (refused WrongFig p) []

figs_judged : (w : Walk (Placed Fig)) → judged_as (judge_figs w) (items_of (all_located (items_of w))) ≡ judge_figs_from None [] w
unfolding judge_figs judge_figs_from items_of judged_as
figs_judged (whole gs) =
    ap (λ (x : Walk (Placed FieldOf)). judged_as (judge_fields x) (items_of (all_located gs))) (sym (all_located_law gs)) ∙ sym (judge_first (all_located gs))
figs_judged (broken p) = refl

pub figs_first : (fib : List ℕ) → judged_as (judge_figs (figs fib)) (located fib) ≡ judge_figs_from None [] (figs fib)
unfolding located
figs_first fib = figs_judged (figs fib)

-- one FIG more: what its fields leave
pub figs_after : (fault less : Option Refused) (ls more : List Located) (fig : Placed Fig) (w : Walk (Placed Fig)) → is_linking fig.what ≡ true
    → ((rest : Walk Located) → judge_from fault ls (joined (located_of fig) rest) ≡ judge_from less more rest)
    → judge_figs_from fault ls (after fig w) ≡ judge_figs_from less more w
unfolding judge_figs_from after all_located
figs_after fault less ls more fig (whole gs) l h = rw l (h (all_located gs))
figs_after fault less ls more fig (broken p) l h = refl

-- or nothing, where it carries no linking
pub figs_over : (fault : Option Refused) (ls : List Located) (fig : Placed Fig) (w : Walk (Placed Fig)) → is_linking fig.what ≡ false
    → judge_figs_from fault ls (after fig w) ≡ judge_figs_from fault ls w
unfolding judge_figs_from after all_located
figs_over fault ls fig (whole gs) l = rw l
figs_over fault ls fig (broken p) l = refl

pub figs_none : (fault : Option Refused) (ls : List Located) → judge_figs_from fault ls (whole []) ≡ answer_of fault ls
unfolding judge_figs_from all_located
figs_none fault ls = judge_none fault ls

pub figs_wrong : (fault : Option Refused) (ls : List Located) (p : ℕ) → judge_figs_from fault ls (broken p) ≡ judged_as (refused WrongFig p) []
unfolding judge_figs_from
figs_wrong fault ls p = refl
