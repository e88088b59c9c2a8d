-- How long the texts of a report are. In order: the line of a refused block, by its parts; the counts; the lines of the blocks.
use Prim.Native.Nat.{ℕ, zero, suc, ◌+◌, ◌*◌, ◌≤◌}
use native.Mathlib.Nat.{le_refl, le_trans, add-le-add}
use native.Mathlib.Omega.{arith}
use mathlib.Core.List.{List}
use lib.ListN.{length, take, drop, length-append}
use lib.Dec.{eqb}
use Rattle.rules.specs.declared.Outcome.{Outcome}
use Rattle.rules.specs.declared.Outcome.TheVariants.{Done, NotABlock, CheckFails, WrongFig, WrongField, WrongValue, EmptyStart, NotHeld, ShortBuffer, WrongTable, NotASheet, NotShown, TooMuch, TooManyPieces, BadCode}
use Rattle.rules.specs.Outcomes.{number_of, Verdict, taken, refused, no_block, verdict}
use Rattle.rules.proofs.Basics.{cond_both}
use Rattle.out.specs.Text.{decimal, decimal_to}
use Rattle.out.proofs.Digits.{length_decimal}
use Rattle.report.specs.Report.{words_of, place_text, refusal_line, block_line, lines_of, count_line, counts_text}

-- ---- the line of a refused block

-- the number of an outcome has at most two digits
number_short : (o : Outcome) → length (decimal (number_of o)) ≤ 2
unfolding number_of decimal decimal_to
number_short Done = omega arith
number_short NotABlock = omega arith
number_short CheckFails = omega arith
number_short WrongFig = omega arith
number_short WrongField = omega arith
number_short WrongValue = omega arith
number_short EmptyStart = omega arith
number_short NotHeld = omega arith
number_short ShortBuffer = omega arith
number_short WrongTable = omega arith
number_short NotASheet = omega arith
number_short NotShown = omega arith
number_short TooMuch = omega arith
number_short TooManyPieces = omega arith
number_short BadCode = omega arith

-- a text is no longer than this
abbrev Within : ℕ → List ℕ → Type 0
Within n text = length text ≤ n

words_short : (n : ℕ) → length (words_of n) ≤ 11
unfolding words_of
words_short n =
    cond_both (Within 11) (eqb n 2) _ _ (omega arith)
    (cond_both (Within 11) (eqb n 3) _ _ (omega arith)
    (cond_both (Within 11) (eqb n 4) _ _ (omega arith)
    (cond_both (Within 11) (eqb n 5) _ _ (omega arith)
    (cond_both (Within 11) (eqb n 6) _ _ (omega arith) (omega arith)))))

place_short : (n place : ℕ) → length (place_text n place) ≤ 29
unfolding place_text
place_short n place = cond_both (Within 29) (eqb n 2) _ _ (omega arith) (omega (arith, length_decimal place))

pub refusal_short : (block : ℕ) (o : Outcome) (place : ℕ) → length (refusal_line block o place) ≤ 80
unfolding refusal_line
refusal_short block o place =
    simp length-append (omega (arith, length_decimal block, number_short o, place_short (number_of o) place, words_short (number_of o)))

-- ---- the counts

count_short : (words : List ℕ) (n : ℕ) → length (count_line words n) ≤ length words + 21
unfolding count_line
count_short words n =
    cond_both (Within (length words + 21)) (eqb n 0) _ _ (omega arith) (simp length-append (omega (arith, length_decimal n)))

pub counts_short : (b r f s : ℕ) → length (counts_text b r f s) ≤ 160
unfolding counts_text
counts_short b r f s =
    simp length-append
    (le_trans (add-le-add (add-le-add (le_refl _) (count_short _ _)) (count_short _ _)) (omega (arith, length_decimal b, length_decimal r)))

-- ---- the lines of the blocks

line_short : (block : ℕ) (v : Verdict) → length (block_line block v) ≤ 80
unfolding block_line
line_short block (taken fs) = omega arith
line_short block (refused o place) = refusal_short block o place
line_short block no_block = omega arith

pub lines_short : (n before : ℕ) (bytes : List ℕ) → length (lines_of n before bytes) ≤ 80 * n
unfolding lines_of
lines_short zero before bytes = omega arith
lines_short (suc n) before bytes =
    simp length-append (omega (arith, line_short (before + 1) (verdict (take 32 bytes)), lines_short n (before + 1) (drop 32 bytes)))
