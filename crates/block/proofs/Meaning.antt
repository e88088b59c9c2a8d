-- What an answer says to the layer above, which reads each field again at its spot: every spot of a taken block says its field of
-- the rules. In this order: what a spot, spots and an answer say; a field at a place; the fields of a block; the answer; its
-- numbers.
use Prim.Native.Nat.{ℕ, zero, suc, ◌+◌, ◌-◌, ◌≤◌, ◌<◌}
use native.Mathlib.Nat.{le_of_suc-le-suc, not-suc-le-zero}
use native.Mathlib.Omega.{arith}
use mathlib.Core.Path.{◌≡◌, refl, sym, ap, ap₂, ◌∙◌, subst, subst₂}
use mathlib.Core.List.{List, [], ◌∷◌, map}
use lib.ListN.{length, get_or, take, drop, length-map}
use Rattle.std.specs.Prelude.{Result, Ok, Err}
use Rattle.rules.specs.declared.Outcome.{Outcome}
use Rattle.rules.specs.declared.Outcome.TheVariants.{Done, NotABlock, CheckFails, WrongFig, WrongField, WrongValue, EmptyStart, NotHeld, ShortBuffer, WrongTable, NotASheet, NotShown, TooMuch, TooManyPieces, BadCode}
use Rattle.rules.specs.Block.{item, Placed, what_of, Walk, whole, Fig, figs}
use Rattle.rules.specs.Field.{Field as FieldOf, is_linking, field_at, fields_of}
use Rattle.rules.specs.Outcomes.{number_of, Verdict, taken, refused, no_block, verdict}
use Rattle.rules.proofs.Basics.{Every, every_imp, every_map, cond_both}
use Rattle.rules.proofs.Taken.{end_item, wrong_item, item-along, FigStands, figs_every, fields_every, taken_block, taken_few}
use Rattle.rules.proofs.Arrays.{get_d_padded}
use Rattle.rules.proofs.LinkageLaws.{Refused as RefusedFor, Refusal, full_refusal, refused_full, refused_numbers}
use Rattle.field.specs.declared.FieldStep.{FieldStep}
use Rattle.field.specs.declared.FieldStep.TheVariants.{Found, End, Wrong}
use Rattle.field.specs.FieldStep.{field_step_at, meaning, found}
use Rattle.field.proofs.Laws.{field_step_at_means}
use Rattle.block.specs.declared.Spot.{Spot}
use Rattle.block.specs.declared.Spots.{Spots}
use Rattle.block.specs.declared.Fault.TheVariants as Fault
use Rattle.block.specs.declared.Refused.{Refused}
use Rattle.block.specs.Judged.{nothing, field_or, field_in, Located, spot_of, field_of, items_of, standing, located_of, all_located, located, no_spot, store_spots, outcome_of, fault_by, outcome_in, place_in, judged_as, judged}
use Rattle.block.proofs.Walks.{items_map, items_every, joined_every}
use Rattle.block.proofs.Verdicts.{located_fields}

-- the bytes of a block that a spot's field stands in: its FIG's body
abbrev pub body_at : List ℕ → Spot → List ℕ
body_at fib s = take (s.end - s.start) (drop s.start fib)

-- a spot of a block says a field of the rules: its body lies in the block's data, a field is found at its place of that
-- body, and means that field there
pub record SpotIs (fib : List ℕ) (s : Spot) (g : FieldOf) : Type 0 where
  pub ordered : s.start ≤ s.end
  pub inside : s.end ≤ 30
  pub means : meaning (body_at fib s) (field_in (body_at fib s) s.place) ≡ g
  pub found : (next : ℕ) × (field_step_at (body_at fib s) s.place ≡ Found (field_in (body_at fib s) s.place) next)

-- a field of the rules with nothing in it
abbrev pub no_field : FieldOf
no_field = meaning [] nothing

-- spots say these fields, in order
pub record SpotsAre (fib : List ℕ) (spots : Spots) (fs : List FieldOf) : Type 0 where
  pub count : spots.count ≡ length fs
  pub few : length fs ≤ 14
  pub each : (i : ℕ) → i < length fs → SpotIs fib (get_or spots.spots i no_spot) (get_or fs i no_field)

-- an answer says a verdict on a block: all the fields; or the fault that refuses, with its place
pub data JudgedAs (fib : List ℕ) (v : Verdict) (r : Result Spots Refused) : Type 0 where
  is_taken : (fs : List FieldOf) → v ≡ taken fs → (spots : Spots) → r ≡ Ok spots → SpotsAre fib spots fs → JudgedAs fib v r
  is_refused : (f : Refused) → v ≡ refused (outcome_of f.fault) f.place → r ≡ Err f → JudgedAs fib v r
  is_no_block : v ≡ no_block → r ≡ Err (record { fault = Fault.NotABlock; place = 0 }) → JudgedAs fib v r

-- ---- a field at a place

-- a step of the code that means an item has found it
found_item : (bytes : List ℕ) (f : FieldOf) (next : ℕ) (s : FieldStep) → found bytes s ≡ item f next
    → (meaning bytes (field_or s) ≡ f) × ((n : ℕ) × (s ≡ Found (field_or s) n))
unfolding found field_or
found_item bytes f next (Found g n) e = (item-along (λ (x : FieldOf) (m : ℕ). meaning bytes g ≡ x) (meaning bytes g) f n next e refl, (n, refl))
found_item bytes f next End e = end_item f next e
found_item bytes f next Wrong e = wrong_item f next e

-- a field that is located is said by its spot, and the spot's place in the block is the field's
abbrev Stands : List ℕ → Located → Type 0
Stands fib l = SpotIs fib l.spot l.field.what × (l.spot.start + l.spot.place ≡ l.field.place)

stands_at_law : (fib bytes : List ℕ) (start stop : ℕ) → start ≤ stop → stop ≤ 30 → bytes ≡ take (stop - start) (drop start fib)
    → (place : ℕ) (f : Placed FieldOf) (next : ℕ) → field_at bytes place ≡ item f.what next → f.place ≡ start + place
    → Stands fib (standing start stop f)
unfolding field_in
stands_at_law fib bytes start stop ordered inside part place f next e at =
    let bytes' = take (stop - start) (drop start fib) in
    let p : f.place - start ≡ place = omega arith in
    let there = field_step_at_means bytes' (f.place - start) ∙ ap₂ field_at (sym part) p ∙ e in
    let w = found_item bytes' f.what next (field_step_at bytes' (f.place - start)) there in
    (record { ordered = ordered; inside = inside; means = w.0; found = w.1 }, omega arith)

-- ---- the fields of a block

fig_stands : (fib : List ℕ) (fig : Placed Fig) (q : ℕ) → FigStands fib fig.place fig.what q → Every (Stands fib) (items_of (located_of fig))
unfolding located_of
fig_stands fib fig q s =
    let start = fig.place + 1 in
    let stop = start + length fig.what.body in
    let n : length fig.what.body ≡ stop - start = omega arith in
    let part = s.part ∙ ap (λ (k : ℕ). take k (drop start fib)) n in
    subst (Every (Stands fib)) (sym (items_map (standing start stop) (fields_of fig)))
    (every_map (Stands fib) (standing start stop) (items_of (fields_of fig))
    (items_every (λ f. Stands fib (standing start stop f)) (fields_of fig)
    (fields_every (λ f. Stands fib (standing start stop f)) fig
    (stands_at_law fib fig.what.body start stop (omega arith) (omega (arith, s.ends, s.inside)) part))))

all_stand : (fib : List ℕ) (gs : List (Placed Fig)) → Every (λ fig. Every (Stands fib) (items_of (located_of fig))) gs
    → Every (Stands fib) (items_of (all_located gs))
unfolding all_located items_of
all_stand fib [] e = tt
all_stand fib (fig ∷ gs) e =
    cond_both (λ (w : Walk Located). Every (Stands fib) (items_of w)) (is_linking fig.what) _ _
    (joined_every (Stands fib) (located_of fig) (all_located gs) e.0 (all_stand fib gs e.1))
    (all_stand fib gs e.1)

located_stands : (fib : List ℕ) (gs : List (Placed Fig)) → length fib ≡ 32 → figs fib ≡ whole gs → Every (Stands fib) (located fib)
unfolding located items_of
located_stands fib gs l w =
    subst (λ (v : Walk (Placed Fig)). Every (Stands fib) (items_of (all_located (items_of v)))) (sym w)
    (all_stand fib gs (figs_every (λ fig. Every (Stands fib) (items_of (located_of fig))) fib (fig_stands fib) gs l w))

-- the place of a field in the block, as its spot says it, is its place by the rules
pub located_places : (fib : List ℕ) (fs : List FieldOf) → verdict fib ≡ taken fs
    → Every (λ l. l.spot.start + l.spot.place ≡ l.field.place) (located fib)
located_places fib fs v =
    let b = taken_block fib fs v in
    every_imp (Stands fib) _ (λ l s. s.1) (located fib) (located_stands fib b.parts b.size b.walked)

-- ---- the answer

each_stands : (fib : List ℕ) (ls : List Located) → Every (Stands fib) ls → (i : ℕ) → i < length ls
    → SpotIs fib (get_or (map spot_of ls) i no_spot) (get_or (map what_of (map field_of ls)) i no_field)
each_stands fib [] e i h = absurd (not-suc-le-zero h)
each_stands fib (l ∷ ls) e zero h = e.0.0
each_stands fib (l ∷ ls) e (suc i) h = each_stands fib ls e.1 i (le_of_suc-le-suc h)

-- the spots of a taken block say its fields
spots_are : (fib : List ℕ) (fs : List FieldOf) → verdict fib ≡ taken fs → SpotsAre fib (store_spots (map spot_of (located fib))) fs
unfolding store_spots
spots_are fib fs v =
    let b = taken_block fib fs v in
    let ls = located fib in
    let all : map what_of (map field_of ls) ≡ fs = ap (map what_of) (located_fields fib b.parts b.fields b.walked b.filled) ∙ b.are in
    let many : length ls ≡ length fs = sym (length-map (map field_of ls) what_of ∙ length-map ls field_of) ∙ ap length all in
    let spots : length (map spot_of ls) ≡ length fs = length-map ls spot_of ∙ many in
    record {
      count = spots;
      few = taken_few fib fs v;
      each = λ i h.
          subst₂ (λ (x : Spot) (y : FieldOf). SpotIs fib x y)
          (sym (get_d_padded 14 no_spot no_spot (map spot_of ls) i (omega arith)))
          (ap (λ (gs : List FieldOf). get_or gs i no_field) all)
          (each_stands fib ls (located_stands fib b.parts b.size b.walked) i (omega arith));
    }

-- a number of 2 to 6 is that of a fault
fault_by_law : (o : Outcome) → 2 ≤ number_of o → number_of o ≤ 6 → outcome_of (fault_by o) ≡ o
unfolding number_of fault_by
fault_by_law Done a b = absurd (omega arith)
fault_by_law NotABlock a b = refl
fault_by_law CheckFails a b = refl
fault_by_law WrongFig a b = refl
fault_by_law WrongField a b = refl
fault_by_law WrongValue a b = refl
fault_by_law EmptyStart a b = refl
fault_by_law NotHeld a b = absurd (omega arith)
fault_by_law ShortBuffer a b = absurd (omega arith)
fault_by_law WrongTable a b = absurd (omega arith)
fault_by_law NotASheet a b = absurd (omega arith)
fault_by_law NotShown a b = absurd (omega arith)
fault_by_law TooMuch a b = absurd (omega arith)
fault_by_law TooManyPieces a b = absurd (omega arith)
fault_by_law BadCode a b = absurd (omega arith)

-- so the outcome that refuses a block is that of its fault
refused_fault : (fib : List ℕ) (o : Outcome) (p : ℕ) → verdict fib ≡ refused o p → outcome_of (fault_by o) ≡ o
refused_fault fib o p e =
    let n = refused_numbers (refused_full fib o p e).1 in
    fault_by_law o n.0 n.1

said_as : (fib : List ℕ) (v : Verdict) → verdict fib ≡ v → JudgedAs fib v (judged_as v (located fib))
unfolding judged_as
said_as fib (taken fs) e = is_taken fs refl _ refl (spots_are fib fs e)
said_as fib (refused o p) e = is_refused (record { fault = fault_by o; place = p }) (ap (λ (x : Outcome). refused x p) (sym (refused_fault fib o p e))) refl
said_as fib no_block e = is_no_block refl refl

-- what a block is judged to be says the verdict of the rules
pub judged_says : (fib : List ℕ) → JudgedAs fib (verdict fib) (judged fib)
unfolding judged
judged_says fib = said_as fib (verdict fib) refl

pub says : (fib : List ℕ) {r : Result Spots Refused} → r ≡ judged fib → JudgedAs fib (verdict fib) r
says fib e = subst (JudgedAs fib (verdict fib)) (sym e) (judged_says fib)

-- ---- demand 1: a block is judged by one of the numbers 0 to 6

pub data JudgeAnswer (fib : List ℕ) (r : Result Spots Refused) : Type 0 where
  -- 0, with one spot a field
  done : (fs : List FieldOf) → verdict fib ≡ taken fs → number_of (outcome_in r) ≡ 0 → place_in r ≡ 0
      → (spots : Spots) → r ≡ Ok spots → spots.count ≡ length fs → JudgeAnswer fib r
  -- 1
  not_a_block : (length fib ≡ 32 → ⊥) → number_of (outcome_in r) ≡ 1 → place_in r ≡ 0 → (f : Refused) → r ≡ Err f → JudgeAnswer fib r
  -- 2 to 6, each for its reason, at its place
  refused_block : length fib ≡ 32 → RefusedFor fib (number_of (outcome_in r)) (place_in r) → (f : Refused) → r ≡ Err f → JudgeAnswer fib r

answer_as : (fib : List ℕ) (v : Verdict) → verdict fib ≡ v → JudgeAnswer fib (judged_as v (located fib))
unfolding judged_as number_of
answer_as fib (taken fs) e = done fs e refl refl _ refl (spots_are fib fs e).count
answer_as fib (refused o p) e =
    let f = refused_full fib o p e in
    refused_block f.0 (subst (λ (x : Outcome). RefusedFor fib (number_of x) p) (sym (refused_fault fib o p e)) f.1) _ refl
answer_as fib no_block e = not_a_block (λ l. subst (Refusal fib) e (full_refusal fib l)) refl refl _ refl

pub judge_answers : (fib : List ℕ) (r : Result Spots Refused) → r ≡ judged fib → JudgeAnswer fib r
unfolding judged
judge_answers fib r e = subst (JudgeAnswer fib) (sym e) (answer_as fib (verdict fib) refl)
