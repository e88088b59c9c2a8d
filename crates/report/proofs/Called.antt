-- What an answer is called, and whether it has a place, by its number.
use mathlib.Core.Path.{◌≡◌, refl}
use mathlib.Core.List.{[]}
use lib.Dec.{eqb}
use denote.Enum.Bare.{sameb}
use Rattle.rules.specs.declared.Outcome.{Outcome}
use Rattle.rules.specs.declared.Outcome.TheVariants.{Done, NotABlock, CheckFails, WrongFig, WrongField, WrongValue, EmptyStart, NotHeld, ShortBuffer, WrongTable, NotASheet, NotShown, TooMuch, TooManyPieces, BadCode}
use Rattle.rules.specs.contracts.Outcome.{the_type}
use Rattle.rules.specs.Outcomes.{number_of}
use Rattle.report.specs.Report.{words_of}

-- who refuses no block has no name
pub no_words : (o : Outcome) → (o ≡ CheckFails → ⊥) → (o ≡ WrongFig → ⊥) → (o ≡ WrongField → ⊥) → (o ≡ WrongValue → ⊥) → (o ≡ EmptyStart → ⊥)
    → words_of (number_of o) ≡ []
unfolding words_of number_of
no_words Done c g f v e = refl
no_words NotABlock c g f v e = refl
no_words CheckFails c g f v e = absurd (c refl)
no_words WrongFig c g f v e = absurd (g refl)
no_words WrongField c g f v e = absurd (f refl)
no_words WrongValue c g f v e = absurd (v refl)
no_words EmptyStart c g f v e = absurd (e refl)
no_words NotHeld c g f v e = refl
no_words ShortBuffer c g f v e = refl
no_words WrongTable c g f v e = refl
no_words NotASheet c g f v e = refl
no_words NotShown c g f v e = refl
no_words TooMuch c g f v e = refl
no_words TooManyPieces c g f v e = refl
no_words BadCode c g f v e = refl

pub check_number : (o : Outcome) → eqb (number_of o) 2 ≡ sameb the_type o CheckFails
unfolding number_of
check_number Done = refl
check_number NotABlock = refl
check_number CheckFails = refl
check_number WrongFig = refl
check_number WrongField = refl
check_number WrongValue = refl
check_number EmptyStart = refl
check_number NotHeld = refl
check_number ShortBuffer = refl
check_number WrongTable = refl
check_number NotASheet = refl
check_number NotShown = refl
check_number TooMuch = refl
check_number TooManyPieces = refl
check_number BadCode = refl
