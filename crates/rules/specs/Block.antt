-- The block (document 01): a FIB of 32 bytes, its check by the polynomial, and the FIGs in it.
-- A byte is a number below 256, a block the list of its bytes, a place the number of bytes before it.
use Rattle.std.specs.Prelude.{ℕ, zero, suc, ◌+◌, ◌*◌, ◌/◌, ◌%◌, ◌^◌, Bool, true, false, not, cond, get_or, take, drop, replicate, leb, ltb, eqb}
use Rattle.std.specs.Bool.{xor}
use mathlib.Core.List.{List, [], ◌∷◌, ◌++◌, map, zip_with}

-- ---- the check

-- the lowest k bits of n, highest first
unfoldable pub bits : ℕ → ℕ → List Bool
bits zero n = []
bits (suc k) n = eqb (n / 2 ^ k % 2) 1 ∷ bits k n

-- 1 or 0
unfoldable pub bit : Bool → ℕ
bit true = 1
bit false = 0

-- the number that these bits write after those of n
unfoldable pub number : ℕ → List Bool → ℕ
number n [] = n
number n (b ∷ bs) = number (n * 2 + bit b) bs

-- x^16 + x^12 + x^5 + 1 without its highest term: the coefficients of x^15 down to x^0
unfoldable pub generator : List Bool
generator = bits 16 (2 ^ 12 + 2 ^ 5 + 2 ^ 0)

-- one bit of the data enters the register, which moves up by one; where the bit that leaves it is not the data's, the
-- generator is added, each coefficient modulo 2
unfoldable pub shift : List Bool → Bool → List Bool
shift [] d = []
shift (top ∷ low) d = cond (xor top d) (zip_with xor (low ++ false ∷ []) generator) (low ++ false ∷ [])

-- the register after these bits
unfoldable pub shifts : List Bool → List Bool → List Bool
shifts r [] = r
shifts r (d ∷ ds) = shifts (shift r d) ds

-- the register after these bytes, each with its highest bit first
unfoldable pub register : List Bool → List ℕ → List Bool
register r [] = r
register r (b ∷ bs) = register (shifts r (bits 8 b)) bs

-- the check of these data: the register all ones at the start, the result complemented
unfoldable pub check_of : List ℕ → ℕ
check_of data' = number 0 (map not (register (replicate 16 true) data'))

-- the check of a block is that of its 30 bytes of data, high byte first
unfoldable pub check_holds : List ℕ → Bool
check_holds fib = eqb (get_or fib 30 0 * 256 + get_or fib 31 0) (check_of (take 30 fib))

-- ---- going through a list of items by their places: FIGs in a block, fields in a FIG

-- what stands at a place: an item and the place after it, the end, or something wrong
pub data Step (A : Type 0) : Type 0 where
  item : A → ℕ → Step A
  end : Step A
  wrong : Step A

-- an item and where it stands: its place counted from the block's first byte
pub record Placed (A : Type 0) : Type 0 where
  pub place : ℕ
  pub what : A

-- the item by itself
abbrev pub what_of : {A : Type 0} → Placed A → A
what_of x = x.what

-- all the items up to the end, or the place in the block of the first that is wrong
pub data Walk (A : Type 0) : Type 0 where
  whole : List A → Walk A
  broken : ℕ → Walk A

-- a walk with one item more in front
unfoldable pub after : {A : Type 0} → A → Walk A → Walk A
after a (whole rest) = whole (a ∷ rest)
after a (broken place) = broken place

-- from a place on, in at most n steps (each step goes on by a byte or more, so that n is never used up); places are counted
-- from the block's byte from
unfoldable pub walk : {A : Type 0} → ℕ → (ℕ → Step A) → ℕ → ℕ → Walk (Placed A)
walk from at zero place = broken (from + place)
walk from at (suc n) place =
    elim (at place)
    [ item a next ↦ after (record { place = from + place; what = a }) (walk from at n next) | end ↦ whole [] | wrong ↦ broken (from + place) ]

-- ---- the FIGs

-- a FIG: its type (the top 3 bits of its first byte) and the bytes that follow, as many as the low 5 bits say
pub record Fig : Type 0 where
  pub type : ℕ
  pub body : List ℕ

-- the FIG that begins at a place. Byte FF ends the list, and so does place 30; length 0 is wrong, and so is a FIG that
-- runs past byte 30
unfoldable pub fig_at : List ℕ → ℕ → Step Fig
fig_at fib place =
    cond (leb 30 place) end
    (cond (eqb (get_or fib place 0) 255) end
    (cond (eqb (get_or fib place 0 % 32) 0) wrong
    (cond (ltb 30 (place + 1 + get_or fib place 0 % 32)) wrong
    (item (record { type = get_or fib place 0 / 32; body = take (get_or fib place 0 % 32) (drop (place + 1) fib) }) (place + 1 + get_or fib place 0 % 32)))))

-- the FIGs of a block
unfoldable pub figs : List ℕ → Walk (Placed Fig)
figs fib = walk 0 (fig_at fib) 31 0
