-- The bits of a number (bits of crate rules), in this order: how many they are; the bits of an exclusive or, bit by bit;
-- the bits of a number moved up by one place, and by several; of a small number; the number that bits write, which is the
-- number they came from, and the bits of its complement. Assumes nothing.
use Prim.Native.Nat.{ℕ, zero, suc, ◌+◌, ◌*◌, ◌/◌, ◌%◌, ◌^◌, ◌<◌}
use mathlib.Core.Path.{◌≡◌, refl, sym, ap, ap₂, ◌∙◌}
use mathlib.Core.Bool.{Bool, true, false, not, xor}
use mathlib.Core.List.{List, [], ◌∷◌, ◌++◌, map, zip_with, append-nil, append_assoc}
use native.Mathlib.Nat.{mod-lt, not-suc-le-zero, le_of_suc-le-suc, zero-lt-suc, zero-add, suc-add, mul-one, mul_assoc, add-mul, add_assoc, mul_comm, pow-suc, lt_of_lt_of_le, le-add_left, div-eq_of_lt}
use native.Mathlib.Numerals.{add-one, one-add}
use native.Mathlib.Omega.{arith}
use lib.ListN.{length, replicate, replicate-append-replicate}
use lib.Dec.{eqb}
use lib.Bits.{bit_xor, xor_shr, xor_mod}
use lib.Pow.{mod-pow-add, shr-shr, shl-shr, pow_mono}
use Rattle.rules.specs.Block.{bits, bit, number}

pub length_bits : (k n : ℕ) → length (bits k n) ≡ k
unfolding bits
length_bits zero n = refl
length_bits (suc k) n = ap suc (length_bits k n)

-- ---- exclusive or

-- two digits
digit_xor : (x y : ℕ) → x < 2 → y < 2 → eqb (bit_xor x y) 1 ≡ xor (eqb x 1) (eqb y 1)
unfolding xor
digit_xor zero zero h l = refl
digit_xor zero (suc zero) h l = refl
digit_xor (suc zero) zero h l = refl
digit_xor (suc zero) (suc zero) h l = refl
digit_xor zero (suc (suc y)) h l = absurd (not-suc-le-zero (le_of_suc-le-suc (le_of_suc-le-suc l)))
digit_xor (suc zero) (suc (suc y)) h l = absurd (not-suc-le-zero (le_of_suc-le-suc (le_of_suc-le-suc l)))
digit_xor (suc (suc x)) y h l = absurd (not-suc-le-zero (le_of_suc-le-suc (le_of_suc-le-suc h)))

-- the bit at place k
bit_xor_law : (k a b : ℕ) → eqb (bit_xor a b / 2 ^ k % 2) 1 ≡ xor (eqb (a / 2 ^ k % 2) 1) (eqb (b / 2 ^ k % 2) 1)
bit_xor_law k a b =
    ap (λ (x : ℕ). eqb (x % 2) 1) (xor_shr a b k)
    ∙ ap (λ (x : ℕ). eqb x 1) (xor_mod (a / 2 ^ k) (b / 2 ^ k) 1)
    ∙ digit_xor (a / 2 ^ k % 2) (b / 2 ^ k % 2) (mod-lt _ (zero-lt-suc 1)) (mod-lt _ (zero-lt-suc 1))

pub bits_xor : (k a b : ℕ) → bits k (bit_xor a b) ≡ zip_with xor (bits k a) (bits k b)
unfolding bits zip_with
bits_xor zero a b = refl
bits_xor (suc k) a b = ap₂ {C = List Bool} (λ x y. x ∷ y) (bit_xor_law k a b) (bits_xor k a b)

-- ---- moved up

half_up : (k n : ℕ) → n * 2 / 2 ^ suc k ≡ n / 2 ^ k
half_up k n =
    ap (λ (x : ℕ). n * 2 / 2 ^ x) (sym (one-add k)) ∙ sym (shr-shr (n * 2) 1 k) ∙ ap (λ (x : ℕ). x / 2 ^ k) (shl-shr n 1)

pub bits_up : (k n : ℕ) → bits (suc k) (n * 2) ≡ bits k n ++ false ∷ []
unfolding bits
bits_up zero n =
    let even : n * 2 / 1 % 2 ≡ 0 = omega arith in
    ap {B = List Bool} (λ x. eqb x 1 ∷ []) even
bits_up (suc k) n = ap₂ {C = List Bool} (λ x y. x ∷ y) (ap (λ (x : ℕ). eqb (x % 2) 1) (half_up k n)) (bits_up k n)

-- by j places
pub bits_up_by : (j k n : ℕ) → bits (j + k) (n * 2 ^ j) ≡ bits k n ++ replicate j false
bits_up_by zero k n = ap₂ bits (zero-add k) (mul-one n) ∙ sym (append-nil (bits k n))
bits_up_by (suc j) k n =
    ap₂ bits (suc-add j k) (ap (◌*◌ n) (pow-suc 2 j) ∙ sym (mul_assoc n (2 ^ j) 2))
    ∙ bits_up (j + k) (n * 2 ^ j)
    ∙ ap (λ (l : List Bool). l ++ false ∷ []) (bits_up_by j k n)
    ∙ append_assoc (bits k n) (replicate j false) (false ∷ [])
    ∙ ap (λ (l : List Bool). bits k n ++ l) (replicate-append-replicate j 1 false ∙ ap (λ (m : ℕ). replicate m false) (add-one j))

-- ---- of a small number

pub bits_small : (j k n : ℕ) → n < 2 ^ k → bits (j + k) n ≡ replicate j false ++ bits k n
unfolding bits
bits_small zero k n h = ap (λ (x : ℕ). bits x n) (zero-add k)
bits_small (suc j) k n h =
    let less : n < 2 ^ (j + k) = lt_of_lt_of_le h (pow_mono (le-add_left k j)) in
    ap (λ (x : ℕ). bits x n) (suc-add j k)
    ∙ ap₂ {C = List Bool} (λ x y. x ∷ y) (ap (λ (x : ℕ). eqb (x % 2) 1) (div-eq_of_lt less)) (bits_small j k n h)

-- ---- the number that bits write

bit_digit : (x : ℕ) → x < 2 → bit (eqb x 1) ≡ x
unfolding bit
bit_digit zero h = refl
bit_digit (suc zero) h = refl
bit_digit (suc (suc x)) h = absurd (not-suc-le-zero (le_of_suc-le-suc (le_of_suc-le-suc h)))

pub number_bits : (k m n : ℕ) → number m (bits k n) ≡ m * 2 ^ k + n % 2 ^ k
unfolding bits number
number_bits zero m n = omega arith
number_bits (suc k) m n =
    number_bits k (m * 2 + bit (eqb (n / 2 ^ k % 2) 1)) n
    ∙ ap (λ (d : ℕ). (m * 2 + d) * 2 ^ k + n % 2 ^ k) (bit_digit (n / 2 ^ k % 2) (mod-lt _ (zero-lt-suc 1)))
    ∙ ap (λ (x : ℕ). x + n % 2 ^ k) (add-mul (m * 2) (n / 2 ^ k % 2) (2 ^ k)) ∙ add_assoc _ _ _
    ∙ ap₂ ◌+◌ (mul_assoc m 2 (2 ^ k) ∙ ap (◌*◌ m) (mul_comm 2 (2 ^ k) ∙ sym (pow-suc 2 k)))
    (sym (mod-pow-add n 1 k) ∙ ap (λ (x : ℕ). n % 2 ^ x) (one-add k))

xor_true : (b : Bool) → xor b true ≡ not b
unfolding xor
xor_true true = refl
xor_true false = refl

pub complement : (n : ℕ) → bits 16 (bit_xor n 65535) ≡ map not (bits 16 n)
unfolding bits zip_with
complement n = bits_xor 16 n 65535 ∙ simp xor_true
