-- An outcome or a note as the code compares it with `==`: what the definitions say of it. In order: done; full; a showing.
use mathlib.Core.Path.{◌≡◌, refl}
use mathlib.Core.Bool.{Bool, true, false}
use denote.Enum.Bare.{sameb}
use mir.Val.{bool_byte}
use Rattle.rules.specs.contracts.Outcome as O
use Rattle.rules.specs.contracts.Note as N
use Rattle.rules.specs.declared.Outcome.{Outcome}
use Rattle.rules.specs.declared.Outcome.TheVariants.{Done, NotABlock, CheckFails, WrongFig, WrongField, WrongValue, EmptyStart, NotHeld, ShortBuffer, WrongTable, NotASheet, NotShown, TooMuch, TooManyPieces, BadCode}
use Rattle.rules.specs.declared.Note.{Note}
use Rattle.rules.specs.declared.Note.TheVariants.{Opened, ShownAndOpened, Added, NoOpenList, Full, TooLong, StateOnly, UnknownKey, Dropped}
use Rattle.rules.specs.Block.{bit}
use Rattle.rules.specs.Outcomes.{is_full}
use Rattle.reading.specs.Steps.{is_done, is_showing}

pub same_done : (o : Outcome) → sameb O.the_type o Done ≡ is_done o
unfolding is_done
same_done Done = refl
same_done NotABlock = refl
same_done CheckFails = refl
same_done WrongFig = refl
same_done WrongField = refl
same_done WrongValue = refl
same_done EmptyStart = refl
same_done NotHeld = refl
same_done ShortBuffer = refl
same_done WrongTable = refl
same_done NotASheet = refl
same_done NotShown = refl
same_done TooMuch = refl
same_done TooManyPieces = refl
same_done BadCode = refl

pub same_full : (n : Note) → sameb N.the_type n Full ≡ is_full n
unfolding is_full
same_full Opened = refl
same_full ShownAndOpened = refl
same_full Added = refl
same_full NoOpenList = refl
same_full Full = refl
same_full TooLong = refl
same_full StateOnly = refl
same_full UnknownKey = refl
same_full Dropped = refl

pub same_showing : (n : Note) → sameb N.the_type n ShownAndOpened ≡ is_showing n
unfolding is_showing
same_showing Opened = refl
same_showing ShownAndOpened = refl
same_showing Added = refl
same_showing NoOpenList = refl
same_showing Full = refl
same_showing TooLong = refl
same_showing StateOnly = refl
same_showing UnknownKey = refl
same_showing Dropped = refl

-- a flag as a number
pub byte_bit : (b : Bool) → bool_byte b ≡ bit b
unfolding bit
byte_bit true = refl
byte_bit false = refl
