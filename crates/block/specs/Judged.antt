-- What judging a block answers: where the fields of a taken block stand in it, in order, or why it is refused, with the place;
-- and what is read again at a spot.
use Rattle.std.specs.Prelude.{ℕ, ◌+◌, ◌-◌, cond, List, [], ◌∷◌, map, length, replicate, Result, Ok, Err}
use Rattle.rules.specs.declared.Outcome.{Outcome}
use Rattle.rules.specs.declared.Outcome.TheVariants.{Done, NotABlock, CheckFails, WrongFig, WrongField, WrongValue, EmptyStart, NotHeld, ShortBuffer, WrongTable, NotASheet, NotShown, TooMuch, TooManyPieces, BadCode}
use Rattle.rules.specs.Arrays.{padded}
use Rattle.rules.specs.Block.{Placed, Walk, whole, broken, Fig, figs}
use Rattle.rules.specs.Field.{Field as FieldOf, is_linking, fields_of}
use Rattle.rules.specs.Outcomes.{Verdict, taken, refused, no_block, joined, verdict}
use Rattle.field.specs.declared.Field.{Field}
use Rattle.field.specs.declared.FieldStep.{FieldStep}
use Rattle.field.specs.declared.FieldStep.TheVariants.{Found, End, Wrong}
use Rattle.field.specs.FieldStep.{field_step_at}
use Rattle.block.specs.declared.Spot.{Spot}
use Rattle.block.specs.declared.Spots.{Spots}
use Rattle.block.specs.declared.Fault.{Fault}
use Rattle.block.specs.declared.Refused.{Refused}

-- a field with nothing in it
abbrev pub nothing : Field
nothing =
    record {
      cn = 0;
      oe = 0;
      pd = 0;
      flag = 0;
      la = 0;
      hard = 0;
      ils = 0;
      lsn = 0;
      rfu = 0;
      qualifier = 0;
      shorthand = 0;
      count = 0;
      from = 0;
    }

-- the field of a step, if it found one
unfoldable pub field_or : FieldStep → Field
field_or (Found f next) = f
field_or End = nothing
field_or Wrong = nothing

-- the field that stands at a place of a body
unfoldable pub field_in : List ℕ → ℕ → Field
field_in body place = field_or (field_step_at body place)

-- ---- the fields of a block, with where they stand

-- a field of the rules at its place in the block, and the spot that says it
pub record Located : Type 0 where
  pub spot : Spot
  pub field : Placed FieldOf

-- the one and the other
abbrev pub spot_of : Located → Spot
spot_of l = l.spot

abbrev pub field_of : Located → Placed FieldOf
field_of l = l.field

-- a walk with every item made into another
unfoldable pub map_walk : {A B : Type 0} → (A → B) → Walk A → Walk B
map_walk h (whole xs) = whole (map h xs)
map_walk h (broken p) = broken p

-- the items of a walk that reaches the end
unfoldable pub items_of : {A : Type 0} → Walk A → List A
items_of (whole xs) = xs
items_of (broken p) = []

-- a field of a FIG with the body fib[start..stop]: its place in that body is counted from start
abbrev pub standing : ℕ → ℕ → Placed FieldOf → Located
standing start stop f = record { spot = record { start = start; end = stop; place = f.place - start }; field = f }

-- the fields of a linking FIG
unfoldable pub located_of : Placed Fig → Walk Located
located_of fig = map_walk (standing (fig.place + 1) (fig.place + 1 + length fig.what.body)) (fields_of fig)

-- the fields of all linking FIGs, in order
unfoldable pub all_located : List (Placed Fig) → Walk Located
all_located [] = whole []
all_located (fig ∷ rest) = cond (is_linking fig.what) (joined (located_of fig) (all_located rest)) (all_located rest)

-- the fields of a block, in order
unfoldable pub located : List ℕ → List Located
located fib = items_of (all_located (items_of (figs fib)))

-- ---- the answer

-- a spot with nothing in it, and spots of no field
abbrev pub no_spot : Spot
no_spot = record { start = 0; end = 0; place = 0 }

unfoldable pub no_spots : Spots
no_spots = record { spots = replicate 14 no_spot; count = 0 }

-- spots as they are stored: in order, and nothing in the places after them
unfoldable pub store_spots : List Spot → Spots
store_spots ss = record { spots = padded 14 no_spot ss; count = length ss }

-- the outcome that a fault is answered with
abbrev pub outcome_of : Fault → Outcome
outcome_of Fault.NotABlock = NotABlock
outcome_of Fault.CheckFails = CheckFails
outcome_of Fault.WrongFig = WrongFig
outcome_of Fault.WrongField = WrongField
outcome_of Fault.WrongValue = WrongValue
outcome_of Fault.EmptyStart = EmptyStart

-- the fault that an outcome answers; one that refuses no block answers none, and no verdict refuses by it
unfoldable pub fault_by : Outcome → Fault
fault_by Done = Fault.NotABlock
fault_by NotABlock = Fault.NotABlock
fault_by CheckFails = Fault.CheckFails
fault_by WrongFig = Fault.WrongFig
fault_by WrongField = Fault.WrongField
fault_by WrongValue = Fault.WrongValue
fault_by EmptyStart = Fault.EmptyStart
fault_by NotHeld = Fault.NotABlock
fault_by ShortBuffer = Fault.NotABlock
fault_by WrongTable = Fault.NotABlock
fault_by NotASheet = Fault.NotABlock
fault_by NotShown = Fault.NotABlock
fault_by TooMuch = Fault.NotABlock
fault_by TooManyPieces = Fault.NotABlock
fault_by BadCode = Fault.NotABlock

-- the outcome and the place that an answer says: done, at 0, or those of a refusal
abbrev pub outcome_in : Result Spots Refused → Outcome
outcome_in (Ok spots) = Done
outcome_in (Err r) = outcome_of r.fault

abbrev pub place_in : Result Spots Refused → ℕ
place_in (Ok spots) = 0
place_in (Err r) = r.place

-- the answer that says a verdict: where the fields stand, or the fault that refuses, at its place
unfoldable pub judged_as : Verdict → List Located → Result Spots Refused
judged_as (taken fs) ls = Ok (store_spots (map spot_of ls))
judged_as (refused o p) ls = Err (record { fault = fault_by o; place = p })
judged_as no_block ls = Err (record { fault = Fault.NotABlock; place = 0 })

-- what a block is judged to be
unfoldable pub judged : List ℕ → Result Spots Refused
judged fib = judged_as (verdict fib) (located fib)
