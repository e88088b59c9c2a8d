-- Laws of numbers as text. In order: hexadecimal digits (their number, one at a place); a decimal's last digit and the digits
-- before it; how many digits there are.
use Prim.Native.Nat.{ℕ, zero, suc, ◌+◌, ◌*◌, ◌/◌, ◌%◌, ◌^◌, ◌≤◌, ◌<◌}
use native.Mathlib.Nat.{mul-suc, pow-suc, pow-le-pow_right, lt_of_lt_of_le, div-eq_of_lt, div-lt_iff_lt-mul}
use native.Mathlib.Omega.{arith}
use mathlib.Core.Path.{◌≡◌, refl, sym, ap, ◌∙◌}
use mathlib.Core.List.{List, [], ◌∷◌, ◌++◌}
use lib.ListN.{length, length-append}
use lib.Dec.{ltb}
use lib.Pow.{pow-add}
use borrow.Author.Tests.{lt-ltb, le-ltb}
use Rattle.out.specs.Text.{hex_digit, hex_text, decimal_to, decimal}
use Rattle.rules.proofs.Basics.{cases_bool}

-- ---- hexadecimal

-- four bits to a digit
pub four_bits : (k : ℕ) → 2 ^ (4 * k) ≡ 16 ^ k
four_bits zero = refl
four_bits (suc k) =
    ap (λ (m : ℕ). 2 ^ m) (mul-suc 4 k) ∙ pow-add 2 (4 * k) 4 ∙ ap (λ (m : ℕ). m * 16) (four_bits k) ∙ sym (pow-suc 16 k)

-- a number of 32 bits has eight
pub high_digit : (n k : ℕ) → n < 2 ^ 32 → 8 ≤ k → 48 ≡ hex_digit (n / 16 ^ k % 16)
unfolding hex_digit
high_digit n k h e =
    sym (ap (λ (m : ℕ). hex_digit (m % 16)) (div-eq_of_lt (lt_of_lt_of_le h (pow-le-pow_right {n = 16} (omega arith) e))))

pub length_hex : (k n : ℕ) → length (hex_text k n) ≡ k
unfolding hex_text
length_hex zero n = refl
length_hex (suc k) n = ap suc (length_hex k n)

-- ---- decimal

-- what stands behind a number stays there
decimal_to_append : (k n : ℕ) (text more : List ℕ) → decimal_to k n (text ++ more) ≡ decimal_to k n text ++ more
unfolding decimal_to
decimal_to_append zero n text more = refl
decimal_to_append (suc k) n text more =
    cases_bool (ltb n 10)
    (λ e. rw e)
    (λ e. rw e (decimal_to_append k (n / 10) ((48 + n % 10) ∷ text) more))

-- one place more than there are digits changes nothing
decimal_to_more : (k n : ℕ) (text : List ℕ) → n < 10 ^ suc k → decimal_to (suc k) n text ≡ decimal_to (suc (suc k)) n text
unfolding decimal_to
decimal_to_more zero n text h = rw (lt-ltb n 10 (omega arith))
decimal_to_more (suc k) n text h =
    cases_bool (ltb n 10)
    (λ e. rw e)
    (λ e. rw e (decimal_to_more k (n / 10) _ ((div-lt_iff_lt-mul {k = 10} (omega arith)).1 (rw (← pow-suc 10 (suc k)) h))))

pub decimal_one : (n : ℕ) → n < 10 → decimal n ≡ (48 + n) ∷ []
unfolding decimal decimal_to
decimal_one n h = rw (lt-ltb n 10 h)

-- the digits before the last, and the last
pub decimal_last : (n : ℕ) → 10 ≤ n → n < 2 ^ 64 → decimal n ≡ decimal (n / 10) ++ (48 + n % 10) ∷ []
unfolding decimal decimal_to
decimal_last n h f =
    let a : decimal_to 20 n [] ≡ decimal_to 19 (n / 10) ((48 + n % 10) ∷ []) = rw (le-ltb n 10 h) in
    a ∙ decimal_to_append 19 (n / 10) [] ((48 + n % 10) ∷ [])
    ∙ ap (λ (l : List ℕ). l ++ (48 + n % 10) ∷ []) (decimal_to_more 18 (n / 10) [] (omega arith))

pub length_decimal_last : (n : ℕ) → 10 ≤ n → n < 2 ^ 64 → length (decimal n) ≡ length (decimal (n / 10)) + 1
length_decimal_last n h f = ap length (decimal_last n h f) ∙ length-append (decimal (n / 10)) ((48 + n % 10) ∷ [])

length_decimal_to : (k n : ℕ) (text : List ℕ) → length (decimal_to k n text) ≤ k + length text
unfolding decimal_to
length_decimal_to zero n text = omega arith
length_decimal_to (suc k) n text =
    cases_bool (ltb n 10)
    (λ e. rw e (omega arith))
    (λ e. rw e (omega (arith, length_decimal_to k (n / 10) ((48 + n % 10) ∷ text))))

pub length_decimal : (n : ℕ) → length (decimal n) ≤ 20
unfolding decimal
length_decimal n = omega (arith, length_decimal_to 20 n [])
