-- Laws of the lines of blocks, and of how many blocks are refused. In order: whole blocks before others; no more are refused than
-- there are; a block as it is judged, which is told by its outcome and place.
use Prim.Native.Nat.{ℕ, zero, suc, ◌+◌, ◌*◌, ◌≤◌}
use native.Mathlib.Nat.{zero-add, add-zero, suc-add}
use native.Mathlib.Omega.{arith}
use mathlib.Core.Path.{◌≡◌, refl, sym}
use mathlib.Core.List.{List, [], ◌∷◌, ◌++◌, append_assoc}
use mathlib.Core.Bool.{Bool, true, false, cond}
use lib.Dec.{eqb}
use denote.Enum.Bare.{sameb}
use borrow.Author.Tests.{ne_eqb}
use lib.ListN.{length, take, drop, length-drop}
use lib.Seq.{take-append-le, drop-append-le}
use Rattle.rules.specs.Block.{bit}
use Rattle.rules.specs.Outcomes.{number_of, Verdict, verdict, is_refused, refused_of}
use Rattle.rules.proofs.Basics.{bit_small}
use Rattle.rules.proofs.LinkageLaws.{refused_full, refused_numbers}
use Rattle.std.specs.Prelude.{Result, Ok, Err}
use Rattle.block.specs.declared.Spots.{Spots}
use Rattle.block.specs.declared.Fault.{Fault}
use Rattle.block.specs.contracts.Fault.{the_type}
use Rattle.block.specs.declared.Refused.{Refused}
use Rattle.block.specs.Judged.{outcome_of, judged}
use Rattle.block.proofs.Meaning.{JudgedAs, is_taken, is_refused as refused_as, is_no_block, says}
use Rattle.report.specs.Report.{refusal_line, block_line, lines_of}

-- ---- whole blocks before others

pub lines_append : (n m before : ℕ) (xs ys : List ℕ) → length xs ≡ n * 32
    → lines_of (n + m) before (xs ++ ys) ≡ lines_of n before xs ++ lines_of m (before + n) ys
unfolding lines_of
lines_append zero m before [] ys l = rw (zero-add m, add-zero before)
lines_append zero m before (x ∷ xs) ys l = absurd (omega arith)
lines_append (suc n) m before xs ys l =
    let next : before + 1 + n ≡ before + suc n = omega arith in
    rw (suc-add n m, take-append-le 32 xs ys (omega arith), drop-append-le 32 xs ys (omega arith))
    (rw (lines_append n m (before + 1) (drop 32 xs) ys (omega (arith, length-drop 32 xs)), next)
    (sym (append_assoc (block_line (before + 1) (verdict (take 32 xs))) (lines_of n (before + 1) (drop 32 xs)) (lines_of m (before + suc n) ys))))

pub refused_append : (n m : ℕ) (xs ys : List ℕ) → length xs ≡ n * 32 → refused_of (n + m) (xs ++ ys) ≡ refused_of n xs + refused_of m ys
unfolding refused_of
refused_append zero m [] ys l = rw (zero-add m) (sym (zero-add (refused_of m ys)))
refused_append zero m (x ∷ xs) ys l = absurd (omega arith)
refused_append (suc n) m xs ys l =
    rw (suc-add n m, take-append-le 32 xs ys (omega arith), drop-append-le 32 xs ys (omega arith))
    (omega (arith, refused_append n m (drop 32 xs) ys (omega (arith, length-drop 32 xs))))

-- ---- no more are refused than there are

pub refused_few : (n : ℕ) (bytes : List ℕ) → refused_of n bytes ≤ n
unfolding refused_of
refused_few zero bytes = omega arith
refused_few (suc n) bytes = omega (arith, bit_small (is_refused (verdict (take 32 bytes))), refused_few n (drop 32 bytes))

-- ---- a block as it is judged

-- by this line, and as refused or not
abbrev ToldAs : ℕ → Verdict → List ℕ → Bool → Type 0
ToldAs block v line b = (line ≡ block_line block v) × (b ≡ is_refused v)

-- a fault that is told, from what is no block
pub no_block_number : (f : Fault) → eqb (number_of (outcome_of f)) 1 ≡ sameb the_type f Fault.NotABlock
unfolding number_of
no_block_number Fault.NotABlock = refl
no_block_number Fault.CheckFails = refl
no_block_number Fault.WrongFig = refl
no_block_number Fault.WrongField = refl
no_block_number Fault.WrongValue = refl
no_block_number Fault.EmptyStart = refl

-- the line of an answer, and whether it says that its block is refused
unfoldable pub line_in : ℕ → Result Spots Refused → List ℕ
line_in block (Ok spots) = []
line_in block (Err r) = cond (eqb (number_of (outcome_of r.fault)) 1) [] (refusal_line block (outcome_of r.fault) r.place)

unfoldable pub refused_in : Result Spots Refused → Bool
refused_in (Ok spots) = false
refused_in (Err r) = cond (eqb (number_of (outcome_of r.fault)) 1) false true

told_as : (block : ℕ) (fib : List ℕ) (r : Result Spots Refused) → JudgedAs fib (verdict fib) r → ToldAs block (verdict fib) (line_in block r) (refused_in r)
unfolding line_in refused_in block_line is_refused number_of
told_as block fib r (is_taken fs v spots e s) = rw (e, v) (refl, refl)
told_as block fib r (refused_as f v e) =
    let n = (refused_numbers (refused_full fib (outcome_of f.fault) f.place v).1).0 in
    rw (e, v, ne_eqb (number_of (outcome_of f.fault)) 1 (λ z. absurd (omega (arith, n, z)))) (refl, refl)
told_as block fib r (is_no_block v e) = rw (e, v) (refl, refl)

-- what an answer says of its block
pub told_law : (block : ℕ) (fib : List ℕ) {r : Result Spots Refused} → r ≡ judged fib → ToldAs block (verdict fib) (line_in block r) (refused_in r)
told_law block fib {r} e = told_as block fib r (says fib e)
