-- A piece as a block (document 01, Writing for air). In order: a number in bytes; its FIG byte by byte; the block that is made
-- in an array of zeros.
use Prim.Native.Nat.{ℕ, zero, suc, ◌+◌, ◌-◌, ◌*◌, ◌/◌, ◌%◌, ◌^◌, ◌≤◌}
use native.Mathlib.Nat.{le_of_suc-le-suc}
use native.Mathlib.Omega.{arith}
use mathlib.Core.Path.{◌≡◌, refl, sym, ap, ◌∙◌}
use mathlib.Core.Bool.{Bool, true, false}
use mathlib.Core.List.{List, [], ◌∷◌, ◌++◌, append_assoc, append-nil}
use lib.ListN.{length, take, drop, set, replicate, length-append, drop_of_length-le}
use lib.Seq.{take-append-add, sets-eq, length-take-le}
use Rattle.rules.specs.Block.{bit, check_of}
use Rattle.rules.specs.Collecting.{key_width}
use Rattle.std.specs.Int.{from_bool, bytes_high_first}
use Rattle.pieces.specs.Air.{Piece, piece_most, big_bytes, all_bytes, field_bytes, fig_bytes, block_of}
use Rattle.pieces.proofs.BlockBack.{all_length, ids_few}
use Rattle.out.specs.Put.{Puts}
use Rattle.out.proofs.Runs.{puts_length}
use Rattle.out.proofs.Answers.{sets_front}

-- a number in this many bytes, and in the last of four
high_bytes : (w n : ℕ) → bytes_high_first w n ≡ big_bytes w n
unfolding big_bytes
high_bytes zero n = refl
high_bytes (suc zero) n = let one : n ≡ n / 1 = omega arith in ap (λ (m : ℕ). m % 256 ∷ []) one
high_bytes (suc (suc w)) n = ap (◌∷◌ (n / 256 ^ suc w % 256)) (high_bytes (suc w) n)

last_four : (w n : ℕ) → w ≤ 4 → take (4 - (4 - w)) (drop (4 - w) (bytes_high_first 4 n)) ≡ bytes_high_first w n
last_four zero n h = refl
last_four (suc zero) n h = refl
last_four (suc (suc zero)) n h = refl
last_four (suc (suc (suc zero))) n h = refl
last_four (suc (suc (suc (suc zero)))) n h = refl
last_four (suc (suc (suc (suc (suc w))))) n h = absurd (omega arith)

pub last_bytes : (w n : ℕ) {bs : List ℕ} → w ≤ 4 → bs ≡ bytes_high_first 4 n → take (4 - (4 - w)) (drop (4 - w) bs) ≡ big_bytes w n
last_bytes w n h e = ap (λ (bs : List ℕ). take (4 - (4 - w)) (drop (4 - w) bs)) e ∙ last_four w n h ∙ high_bytes w n

-- a flag as a bit
pub bit_from : (b : Bool) → from_bool b ≡ bit b
unfolding bit
bit_from true = refl
bit_from false = refl

-- its numbers have 24 bytes at most
pub numbers_few : (key w n : ℕ) → w ≡ key_width key → n ≤ piece_most (key_width key) → n * w ≤ 24
numbers_few key w n e h = rw e (ids_few key n h)

-- the FIG of a piece, byte by byte
pub fig_made : (key : ℕ) (on : Bool) (c : Piece) (w more state : ℕ) → w ≡ key_width key → more ≡ from_bool c.more → state ≡ from_bool on
    → (4 + length c.numbers * w)
    ∷ (more * 128 + key / 32768 % 2 * 64 + key / 16384 % 2 * 32 + 6)
    ∷ (128 + state * 64 + key / 8192 % 2 * 32 + key / 4096 % 2 * 16 + key % 4096 / 256)
    ∷ (key % 256)
    ∷ (c.qualifier * 32 + length c.numbers)
    ∷ all_bytes w c.numbers
    ≡ fig_bytes key on c
unfolding fig_bytes field_bytes
fig_made key on c w more state ew em es =
    let size : 4 + length c.numbers * w ≡ length (field_bytes key on c) = rw ew (omega (arith, all_length (key_width key) c.numbers)) in
    let m : more ≡ bit c.more = em ∙ bit_from c.more in
    let s : state ≡ bit on = es ∙ bit_from on in
    λ i.
    size i
    ∷ (m i * 128 + key / 32768 % 2 * 64 + key / 16384 % 2 * 32 + 6)
    ∷ (128 + s i * 64 + key / 8192 % 2 * 32 + key / 4096 % 2 * 16 + key % 4096 / 256)
    ∷ (key % 256)
    ∷ (c.qualifier * 32 + length c.numbers)
    ∷ all_bytes (ew i) c.numbers

-- ---- the block around it

zeros : ℕ → List ℕ
zeros n = replicate n 0

zeros_drop : (k n : ℕ) → drop k (zeros n) ≡ zeros (n - k)
unfolding zeros
zeros_drop zero n = let e : n ≡ n - 0 = omega arith in ap zeros e
zeros_drop (suc k) zero = let e : 0 ≡ 0 - suc k = omega arith in ap zeros e
zeros_drop (suc k) (suc n) = let e : n - k ≡ suc n - suc k = omega arith in zeros_drop k n ∙ ap zeros e

zeros_take : (m n : ℕ) → m ≤ n → take m (zeros n) ≡ zeros m
unfolding zeros
zeros_take zero n h = refl
zeros_take (suc m) zero h = absurd (omega arith)
zeros_take (suc m) (suc n) h = ap (◌∷◌ 0) (zeros_take m n (le_of_suc-le-suc h))

-- FF after a FIG and then zeros, as far as there is room
data_front : (fs : List ℕ) (n : ℕ) → length fs ≤ 29 → 29 ≤ length fs + n → take 30 (fs ++ 255 ∷ replicate n 0) ≡ fs ++ 255 ∷ replicate (29 - length fs) 0
unfolding zeros
data_front fs n h g =
    let e : 30 ≡ length fs + suc (29 - length fs) = omega arith in
    ap (λ (k : ℕ). take k (fs ++ 255 ∷ replicate n 0)) e ∙ take-append-add fs (255 ∷ replicate n 0) (suc (29 - length fs))
    ∙ ap (λ (r : List ℕ). fs ++ 255 ∷ r) (zeros_take (29 - length fs) n (omega arith))

-- a FIG and FF are put into 32 zeros
module _ (fs : List ℕ) (few : length fs ≤ 29) {n : List ℕ} {k : ℕ} (data' : Puts (replicate 32 0) 0 (fs ++ 255 ∷ []) n k) where
  block_data_law : take 30 n ≡ take 30 (fs ++ 255 ∷ replicate 30 0)
  unfolding zeros
  block_data_law =
      let us : List ℕ = fs ++ 255 ∷ [] in
      let l : length us ≡ length fs + 1 = length-append fs (255 ∷ []) in
      let all : n ≡ us ++ drop (length us) (replicate 32 0) = data'.stored ∙ sets_front us (replicate 32 0) (omega arith) in
      ap (take 30) (all ∙ ap (λ (r : List ℕ). us ++ r) (zeros_drop (length us) 32) ∙ append_assoc fs (255 ∷ []) (replicate (32 - length us) 0))
      ∙ data_front fs (32 - length us) few (omega arith) ∙ sym (data_front fs 30 few (omega arith))

  -- and the check after the first 30 bytes; `m` is what the array then holds
  pub block_made : {m : List ℕ} {check : ℕ} → m ≡ n → check ≡ check_of (take 30 m) → set (set m 30 (check / 256)) 31 (check % 256) ≡ block_of fs
  unfolding block_of
  block_made {m} {check} left e =
      let long : length m ≡ 32 = ap length left ∙ puts_length data' in
      let front : take 30 m ≡ take 30 (fs ++ 255 ∷ replicate 30 0) = ap (take 30) left ∙ block_data_law in
      let d : check ≡ check_of (take 30 (fs ++ 255 ∷ replicate 30 0)) = e ∙ ap check_of front in
      sets-eq ((check / 256) ∷ (check % 256) ∷ []) m 30 (omega arith)
      ∙ ap (λ (r : List ℕ). take 30 m ++ (check / 256) ∷ (check % 256) ∷ [] ++ r) (drop_of_length-le m {i = 32} (omega arith))
      ∙ append-nil (take 30 m ++ (check / 256) ∷ (check % 256) ∷ [])
      ∙ λ i. front i ++ (d i / 256) ∷ (d i % 256) ∷ []

  pub block_room : {m : List ℕ} → m ≡ n → 30 ≡ length (take 30 m)
  block_room {m} left = sym (length-take-le 30 m (omega (arith, ap length left, puts_length data')))
