-- Numbers of a sheet as the code reads them: one turn of the loop over a number's bytes.
use Prim.Native.Nat.{ℕ, ◌+◌, ◌-◌, ◌*◌, ◌%◌, ◌^◌, ◌<◌, ◌≤◌}
use native.Mathlib.Omega.{arith}
use mathlib.Core.Path.{◌≡◌, refl, sym, ap, ◌∙◌}
use mathlib.Core.Bool.{Bool, true, false, not, cond, ◌&&◌, ◌||◌}
use mathlib.Core.List.{List}
use mathlib.Core.Option.{some}
use lib.ListN.{length, get_or}
use lib.Dec.{eqb, ltb}
use borrow.Author.Tests.{eq-eqb, lt-ltb, le-ltb, le-leb, lt-leb, ltb-true, ltb-false, eqb-true, eqb-false}
use Rattle.std.specs.Prelude as lang
use Rattle.std.proofs.lemmas.Option.{slice_get_read, get_or_from_slice_get}
use Rattle.rules.proofs.Basics.{cases_bool, or_false_left, or_false_right}
use Rattle.layout.specs.Parse.{read_groups, read_number}
use Rattle.layout.proofs.ParseLaws.{groups_turn, Room, room_start, room_more, room_scale, room_value}
use Rattle.sheet.specs.declared.Reader.{Reader}
use Rattle.sheet.specs.Reading.{Reads}
use Rattle.sheet.proofs.Steps.{reads_none, reads_some}

abbrev pub wrong_byte : ℕ → ℕ → ℕ → Bool
wrong_byte i scale b = (eqb i 4 && ltb 15 b) || (eqb b 0 && not (eqb scale 1))

-- a byte that can be is at most 15 if it is the fifth
byte_small : (i scale b : ℕ) → wrong_byte i scale b ≡ false → i ≡ 4 → b ≤ 15
byte_small i scale b w f =
    ltb-false 15 b (rw (eq-eqb i 4 f) at (or_false_left (eqb i 4 && ltb 15 b) (eqb b 0 && not (eqb scale 1)) w))

-- a byte that was looked up
pub byte_here : (xs : List ℕ) (i x y : ℕ) → true ≡ ltb i (length xs) → y ≡ x → x ≡ get_or xs i x → y ≡ get_or xs i 0
byte_here xs i x y t e h = e ∙ sym (get_or_from_slice_get xs i x 0 (slice_get_read xs (length xs) i x refl (ltb-true _ _ (sym t)) h))

-- i bytes of a number were read, and what is still to be read from the present one on is what was to be read
pub record Grouping (old now : Reader) (i scale value : ℕ) : Type 0 where
  pub room : Room i scale value
  pub same : now.bytes ≡ old.bytes
  pub rest : read_groups (5 - i) scale value now.bytes.now now.at ≡ read_number old.bytes.now old.at

pub number_start : (old : Reader) → Grouping old old 0 1 0
unfolding read_number
number_start old = record { room = room_start; same = refl; rest = refl }

module _ (old now : Reader) (i scale value : ℕ) (g : Grouping old now i scale value) where
  abbrev next : Reader
  next = record { bytes = now.bytes; at = now.at + 1 }

  pub number_end : 5 ≤ i → Reads (λ n. n) (read_number old.bytes.now old.at) old lang.None now
  unfolding read_groups
  number_end h =
      let e : 5 - i ≡ 0 = omega arith in
      reads_none (sym g.rest ∙ ap (λ (n : ℕ). read_groups n scale value now.bytes.now now.at) e) refl

  module _ (h : i < 5) where
    pub number_short : {given : lang.Option ℕ} → length now.bytes.now ≤ now.at → given ≡ lang.None → Reads (λ n. n) (read_number old.bytes.now old.at) old given now
    number_short l e = reads_none (sym g.rest ∙ rw (groups_turn i scale value now.bytes.now now.at h, le-leb _ _ l)) e

    module _ (l : now.at < length now.bytes.now) (b : ℕ) (b_is : b ≡ get_or now.bytes.now now.at 0) where
      pub number_wrong : wrong_byte i scale b ≡ true → Reads (λ n. n) (read_number old.bytes.now old.at) old lang.None now
      number_wrong w =
          let v = rw b_is at w in
          reads_none
          (sym g.rest
          ∙ cases_bool (eqb i 4 && ltb 15 (get_or now.bytes.now now.at 0))
          (λ p. rw (groups_turn i scale value now.bytes.now now.at h, lt-leb _ _ l, p))
          (λ p. rw (groups_turn i scale value now.bytes.now now.at h, lt-leb _ _ l, p, rw p at v)))
          refl

      module _ (w : wrong_byte i scale b ≡ false) where
        number_turn : read_groups (5 - i) scale value now.bytes.now now.at
            ≡ cond (ltb b 128) (some (record { value = value + b * scale; next = now.at + 1 }))
            (read_groups (5 - (i + 1)) (scale * 128) (value + b % 128 * scale) now.bytes.now (now.at + 1))
        number_turn =
            let a = eqb i 4 && ltb 15 b in
            let z = eqb b 0 && not (eqb scale 1) in
            groups_turn i scale value now.bytes.now now.at h
            ∙ rw (← b_is, lt-leb _ _ l, or_false_left a z w, or_false_right a z w)

        pub number_last : b < 128 → Reads (λ n. n) (read_number old.bytes.now old.at) old (lang.Some (value + b * scale)) next
        number_last s =
            reads_some (record { value = value + b * scale; next = now.at + 1 })
            (sym g.rest ∙ number_turn ∙ rw (lt-ltb _ _ s))
            refl
            (λ j. record { bytes = g.same j; at = now.at + 1 })

        -- and it fits in 32 bits
        pub number_fits : b < 128 → value + b * scale < 2 ^ 32
        number_fits s = room_value i scale value b h g.room s (byte_small i scale b w)

        pub number_next : 128 ≤ b → Grouping old next (i + 1) (scale * 128) (value + b % 128 * scale)
        number_next s =
            record {
              room = room_more i scale value b g.room;
              same = g.same;
              rest = sym (number_turn ∙ rw (le-ltb _ _ s)) ∙ g.rest;
            }

        -- and it all fits in 32 bits: a byte that is not the last is not the fifth
        pub number_room : 128 ≤ b → (value + b % 128 * scale < scale * 128) × (scale * 128 ≤ 2 ^ 28)
        number_room s =
            let n : i < 4 = cases_bool (eqb i 4) (λ q. omega (arith, eqb-true i 4 q, byte_small i scale b w (eqb-true i 4 q))) (λ q. omega (arith, eqb-false i 4 q)) in
            let m = room_more i scale value b g.room in
            (m.below, room_scale (i + 1) (scale * 128) _ (omega arith) m)
