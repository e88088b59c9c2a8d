-- The register of the block check, in this order: adding bits modulo 2; what becomes of bits that were added to the register as
-- data bits enter, on which every check by several bits at once rests; the same with numbers for registers: a byte added to the
-- top, and four moves by what the four bits leave that move out; the table of that; the bytes of a list, and the check from the
-- register. Assumes nothing.
use Prim.Native.Nat.{ℕ, zero, suc, ◌+◌, ◌*◌, ◌/◌, ◌%◌, ◌<◌}
use mathlib.Core.Path.{◌≡◌, refl, sym, ap, ap₂, ◌∙◌}
use mathlib.Core.Bool.{Bool, true, false, not, cond, xor}
use mathlib.Core.List.{List, [], ◌∷◌, ◌++◌, map, zip_with, append-nil, append_assoc}
use native.Mathlib.Nat.{not-suc-le-zero, le_of_suc-le-suc}
use native.Mathlib.Numerals.{add-one}
use native.Mathlib.Omega.{arith}
use lib.ListN.{length, get_or, drop, replicate, length-append, get_or-map}
use lib.Seq.{drop-cons}
use lib.Bits.{bit_xor, xor_lt, xor_shifted}
use lib.Pow.{split}
use Rattle.rules.specs.Block.{bits, number, generator, shift, shifts, register}
use Rattle.rules.proofs.Arrays.{tabulate}
use Rattle.crc.specs.Remainders.{remainder, Remainders}
use Rattle.crc.proofs.Sizes.{shift_length, shifts_length}
use Rattle.crc.proofs.Bits.{length_bits, bits_xor, bits_up_by, bits_small, number_bits, complement}

-- ---- adding bits

xor_assoc : (a b c : Bool) → xor (xor a b) c ≡ xor a (xor b c)
unfolding xor
xor_assoc true true true = refl
xor_assoc true true false = refl
xor_assoc true false true = refl
xor_assoc true false false = refl
xor_assoc false true true = refl
xor_assoc false true false = refl
xor_assoc false false true = refl
xor_assoc false false false = refl

xor_comm : (a b : Bool) → xor a b ≡ xor b a
unfolding xor
xor_comm true true = refl
xor_comm true false = refl
xor_comm false true = refl
xor_comm false false = refl

xor_false : (b : Bool) → xor b false ≡ b
unfolding xor
xor_false true = refl
xor_false false = refl

zip_false : (n : ℕ) (r : List Bool) → length r ≡ n → zip_with xor r (replicate n false) ≡ r
unfolding zip_with
zip_false zero [] e = refl
zip_false zero (t ∷ r) e = absurd (omega arith)
zip_false (suc n) [] e = refl
zip_false (suc n) (t ∷ r) e = ap₂ {C = List Bool} (λ x y. x ∷ y) (xor_false t) (zip_false n r (omega arith))

zip_swap : (r m g : List Bool) → zip_with xor (zip_with xor r m) g ≡ zip_with xor (zip_with xor r g) m
unfolding zip_with
zip_swap [] m g = refl
zip_swap (t ∷ r) [] [] = refl
zip_swap (t ∷ r) [] (b ∷ g) = refl
zip_swap (t ∷ r) (a ∷ m) [] = refl
zip_swap (t ∷ r) (a ∷ m) (b ∷ g) =
    ap₂ {C = List Bool} (λ x y. x ∷ y) (xor_assoc t a b ∙ ap (xor t) (xor_comm a b) ∙ sym (xor_assoc t b a)) (zip_swap r m g)

zip_moved : (r m : List Bool) → length r ≡ length m → zip_with xor r m ++ false ∷ [] ≡ zip_with xor (r ++ false ∷ []) (m ++ false ∷ [])
unfolding zip_with xor
zip_moved [] [] e = refl
zip_moved [] (b ∷ m) e = absurd (omega arith)
zip_moved (t ∷ r) [] e = absurd (omega arith)
zip_moved (t ∷ r) (b ∷ m) e = ap {B = List Bool} (λ x. xor t b ∷ x) (zip_moved r m (omega arith))

-- ---- bits added to the register

-- one bit enters: what was added to the highest is as if it entered, and what was added below moves along
shift_added : (t a : Bool) (r m : List Bool) (d : Bool) → length r ≡ length m
    → shift (xor t a ∷ zip_with xor r m) d ≡ zip_with xor (shift (t ∷ r) (xor a d)) (m ++ false ∷ [])
unfolding shift
shift_added t a r m d e = rw (xor_assoc t a d) (pick (xor t (xor a d)))
  where
    pick : (b : Bool) → cond b (zip_with xor (zip_with xor r m ++ false ∷ []) generator) (zip_with xor r m ++ false ∷ [])
        ≡ zip_with xor (cond b (zip_with xor (r ++ false ∷ []) generator) (r ++ false ∷ [])) (m ++ false ∷ [])
    pick true = ap (λ (x : List Bool). zip_with xor x generator) (zip_moved r m e) ∙ zip_swap (r ++ false ∷ []) (m ++ false ∷ []) generator
    pick false = zip_moved r m e

-- several enter: what was added to as many of the highest is as if it entered, and what was added below moves along
shifts_added : (r hs m ds : List Bool) → length r ≡ 16 → length hs ≡ length ds → length ds + length m ≡ 16
    → shifts (zip_with xor r (hs ++ m)) ds ≡ zip_with xor (shifts r (zip_with xor hs ds)) (m ++ replicate (length ds) false)
unfolding shifts zip_with
shifts_added r [] m [] e f h = ap (zip_with xor r) (sym (append-nil m))
shifts_added r [] m (d ∷ ds) e f h = absurd (omega arith)
shifts_added r (a ∷ hs) m [] e f h = absurd (omega arith)
shifts_added [] (a ∷ hs) m (d ∷ ds) e f h = absurd (omega arith)
shifts_added (t ∷ r) (a ∷ hs) m (d ∷ ds) e f h =
    let next : List Bool = shift (t ∷ r) (xor a d) in
    ap (λ (x : List Bool). shifts x ds) (shift_added t a r (hs ++ m) d (omega (arith, length-append hs m)) ∙ ap (zip_with xor next) (append_assoc hs m (false ∷ [])))
    ∙ shifts_added next hs (m ++ false ∷ []) ds (shift_length (t ∷ r) (xor a d) e) (omega arith) (omega (arith, length-append m (false ∷ [])))
    ∙ ap (zip_with xor (shifts next (zip_with xor hs ds))) (append_assoc m (false ∷ []) (replicate (length ds) false))

-- ---- as numbers

-- a byte added to the top, and eight moves
pub byte_at_once : (r b : ℕ) → shifts (bits 16 (bit_xor r (b * 256))) (replicate 8 false) ≡ shifts (bits 16 r) (bits 8 b)
byte_at_once r b =
    ap (λ (x : List Bool). shifts x (replicate 8 false)) (bits_xor 16 r (b * 256) ∙ ap (zip_with xor (bits 16 r)) (bits_up_by 8 8 b))
    ∙ shifts_added (bits 16 r) (bits 8 b) (replicate 8 false) (replicate 8 false) (length_bits 16 r) (length_bits 8 b) refl
    ∙ zip_false 16 (shifts (bits 16 r) (zip_with xor (bits 8 b) (replicate 8 false))) (shifts_length (bits 16 r) _ (length_bits 16 r))
    ∙ ap (shifts (bits 16 r)) (zip_false 8 (bits 8 b) (length_bits 8 b))

-- the four bits that move out, apart from those below them
top_apart : (r : ℕ) → bits 16 r ≡ zip_with xor (bits 16 (r / 4096 * 4096)) (replicate 4 false ++ bits 12 (r % 4096))
top_apart r =
    let low : r % 4096 < 4096 = omega arith in
    ap (bits 16) (sym (xor_shifted (r / 4096) 12 (r % 4096) low ∙ split r 12))
    ∙ bits_xor 16 (r / 4096 * 4096) (r % 4096)
    ∙ ap (zip_with xor (bits 16 (r / 4096 * 4096))) (bits_small 4 12 (r % 4096) low)

-- four moves: what those leave, and the others moved up, added
pub four_up : (r e : ℕ) → bits 16 e ≡ remainder (r / 4096) → bits 16 (bit_xor e (r % 4096 * 16)) ≡ shifts (bits 16 r) (replicate 4 false)
unfolding remainder xor zip_with
four_up r e h =
    let zeros : List Bool = replicate 4 false in
    bits_xor 16 e (r % 4096 * 16) ∙ ap₂ (zip_with xor) h (bits_up_by 4 12 (r % 4096))
    ∙ sym (shifts_added (bits 16 (r / 4096 * 4096)) zeros (bits 12 (r % 4096)) zeros (length_bits 16 _) refl (omega (arith, length_bits 12 (r % 4096))))
    ∙ ap (λ (x : List Bool). shifts x zeros) (sym (top_apart r))

-- ---- the table

get_d_tabulate : {A : Type 0} (n : ℕ) (g : ℕ → A) (i : ℕ) (d : A) → i < n → get_or (tabulate n g) i d ≡ g i
unfolding tabulate
get_d_tabulate zero g i d h = absurd (not-suc-le-zero h)
get_d_tabulate (suc n) g zero d h = refl
get_d_tabulate (suc n) g (suc i) d h = get_d_tabulate n (λ k. g (suc k)) i d (le_of_suc-le-suc h)

-- that its entries are right can be computed, all at once
pub all_right : {table : List ℕ} → map (bits 16) table ≡ tabulate 16 remainder → Remainders table
all_right {table} e = record { entry = λ top h. sym (get_or-map (bits 16) table top 0) ∙ ap (λ l. get_or l top (bits 16 0)) e ∙ get_d_tabulate 16 remainder top _ h }

-- ---- over a list of bytes

-- the byte at place i enters, and the bytes after it are still to come
pub byte_enters : (r : List Bool) (bytes : List ℕ) (i : ℕ) → i < length bytes
    → register (shifts r (bits 8 (get_or bytes i 0))) (drop (i + 1) bytes) ≡ register r (drop i bytes)
unfolding register
byte_enters r bytes i h = rw (add-one i, drop-cons bytes i 0)

-- the check is the complement of the register
pub check_of_register : (r : ℕ) → r < 65536 → number 0 (map not (bits 16 r)) ≡ bit_xor r 65535
check_of_register r h =
    let small : bit_xor r 65535 < 65536 = xor_lt 16 r 65535 h (omega arith) in
    let read : number 0 (bits 16 (bit_xor r 65535)) ≡ 0 * 65536 + bit_xor r 65535 % 65536 = number_bits 16 0 (bit_xor r 65535) in
    ap (number 0) (sym (complement r)) ∙ read ∙ omega arith
