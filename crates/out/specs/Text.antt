-- Numbers as text, as their bytes: what every output for eyes is made of.
use Rattle.std.specs.Prelude.{ℕ, zero, suc, ◌+◌, ◌/◌, ◌%◌, ◌^◌, cond, List, [], ◌∷◌, ltb}

-- a capital hexadecimal digit
unfoldable pub hex_digit : ℕ → ℕ
hex_digit d = cond (ltb d 10) (48 + d) (55 + d)

-- a number in this many hexadecimal digits
unfoldable pub hex_text : ℕ → ℕ → List ℕ
hex_text zero n = []
hex_text (suc k) n = hex_digit (n / 16 ^ k % 16) ∷ hex_text k n

-- a number in decimal, without leading zeros, in front of a text; in at most k digits
unfoldable pub decimal_to : ℕ → ℕ → List ℕ → List ℕ
decimal_to zero n text = text
decimal_to (suc k) n text = cond (ltb n 10) ((48 + n) ∷ text) (decimal_to k (n / 10) ((48 + n % 10) ∷ text))

unfoldable pub decimal : ℕ → List ℕ
decimal n = decimal_to 20 n []
