-- How one pass over a block keeps the order of 4, 5 and 6, and the place: what has been found so far is a fault, if any, and the
-- fields, and the answer to the whole follows from those and from what is still to come.
use Rattle.std.specs.Prelude.{ℕ, ◌+◌, ◌-◌, ◌*◌, ◌≤◌, ◌<◌, ◌≡◌, cond, List, ◌++◌, map, length, take, drop, ltb, Option, Some, None, Result, Ok, Err}
use Rattle.rules.specs.Block.{Placed, Walk, whole, broken, walk, figs}
use Rattle.rules.specs.Field.{Field as FieldOf, field_at, wrong_value, empty_start}
use Rattle.rules.specs.Outcomes.{number_of, joined, some?, first_place, judge_figs}
use Rattle.field.specs.declared.Field.{Field}
use Rattle.field.specs.FieldStep.{wrong_in, empty_in}
use Rattle.block.specs.declared.Fault.{Fault}
use Rattle.block.specs.declared.Refused.{Refused}
use Rattle.block.specs.declared.Spots.{Spots}
use Rattle.block.specs.declared.Pushed.{Pushed}
use Rattle.block.specs.Judged.{outcome_of, Located, spot_of, field_of, map_walk, standing, located, store_spots, judged_as}

-- a fault at a place
abbrev pub fault_at : Fault → ℕ → Option Refused
fault_at fault place = Some (record { fault = fault; place = place })

-- the fault of a field of the code at a place, if it has one: 5 a wrong value, 6 an empty start
unfoldable pub fault_in : Field → ℕ → Option Refused
fault_in f place = cond (wrong_in f) (fault_at Fault.WrongValue place) (cond (empty_in f) (fault_at Fault.EmptyStart place) None)

-- the number that a fault is answered with; none comes after all of them
unfoldable pub number_in : Option Refused → ℕ
number_in None = 7
number_in (Some r) = number_of (outcome_of r.fault)

-- a fault, or the one behind it: the one of the smaller number, and of one number the first
unfoldable pub worse : Option Refused → Option Refused → Option Refused
worse a b = cond (ltb (number_in b) (number_in a)) b a

-- the fault of a field of the rules
unfoldable pub fault_of : Placed FieldOf → Option Refused
fault_of f = cond (wrong_value f.what) (fault_at Fault.WrongValue f.place) (cond (empty_start f.what) (fault_at Fault.EmptyStart f.place) None)

-- the first fault of the smallest number of these fields
unfoldable pub faults_of : List (Placed FieldOf) → Option Refused
faults_of fs =
    cond (some? wrong_value fs) (fault_at Fault.WrongValue (first_place wrong_value fs))
    (cond (some? empty_start fs) (fault_at Fault.EmptyStart (first_place empty_start fs)) None)

-- the answer by that fault, or where the fields stand
unfoldable pub answer_of : Option Refused → List Located → Result Spots Refused
answer_of None ls = Ok (store_spots (map spot_of ls))
answer_of (Some r) ls = Err r

-- the answer to a fault and fields found so far, and the fields that come after them
unfoldable pub judge_from : Option Refused → List Located → Walk Located → Result Spots Refused
judge_from fault ls (whole more) = answer_of (worse fault (faults_of (map field_of more))) (ls ++ more)
judge_from fault ls (broken p) = answer_of (worse fault (fault_at Fault.WrongField p)) ls

-- the fields of a body fib[start..stop] from a place of it on, in at most n steps
unfoldable pub located_from : List ℕ → ℕ → ℕ → ℕ → ℕ → Walk Located
located_from fib start stop n place = map_walk (standing start stop) (walk start (field_at (take (stop - start) (drop start fib))) n place)

-- all of them
unfoldable pub located_in : List ℕ → ℕ → ℕ → Walk Located
located_in fib start stop = located_from fib start stop (stop - start) 1

-- a body that fields can still be pushed from: it lies in a block's data, and each field found so far has taken two bytes
-- before it, after the first two
pub record CanPush (fib : List ℕ) (start stop : ℕ) (before : Pushed) : Type 0 where
  pub block : length fib ≡ 32
  pub holds : start < stop
  pub within : stop ≤ 30
  pub room : 2 * before.spots.count + 1 ≤ start

-- what pushing the fields of a body leaves: the answer is the same, whatever comes after that body
pub record Pushes (fib : List ℕ) (start stop : ℕ) (before after : Pushed) : Type 0 where
  pub room : 2 * after.spots.count + 1 ≤ stop
  pub fields :
      (ls : List Located) → before.spots ≡ store_spots (map spot_of ls)
      → (more : List Located)
      × (after.spots ≡ store_spots (map spot_of more))
      × ((rest : Walk Located) → judge_from before.fault ls (joined (located_in fib start stop) rest) ≡ judge_from after.fault more rest)

-- the answer at the end of the FIGs is that by the fault, on the fields that were found
unfoldable pub Concludes : Pushed → Result Spots Refused → Type 0
Concludes found r = (ls : List Located) → found.spots ≡ store_spots (map spot_of ls) → r ≡ answer_of found.fault ls

-- the answer to the FIGs of a block says the verdict on them
unfoldable pub JudgesFigs : List ℕ → Result Spots Refused → Type 0
JudgesFigs fib r = r ≡ judged_as (judge_figs (figs fib)) (located fib)
