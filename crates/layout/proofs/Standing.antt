-- What the sheet's laws need of lists of bytes: bytes that stand at a place, put together and taken apart again.
use Prim.Native.Nat.{ℕ, ◌+◌, ◌<◌}
use mathlib.Core.Path.{◌≡◌, refl, sym, ◌∙◌, ap, subst}
use mathlib.Core.List.{List, [], ◌∷◌, ◌++◌, append_assoc}
use native.Mathlib.Numerals.{add-one}
use native.Mathlib.Omega.{arith}
use lib.ListN.{length, get_or, drop, length-append, drop_of_length-le}
use lib.Seq.{drop-cons, drop-drop, drop-append_seam}
use lib.Dec.{ltb}
use borrow.Author.Tests.{ltb-true, ltb-false}
use Rattle.rules.proofs.Basics.{cases_bool, same_head, same_tail}

-- ---- bytes at a place

-- all of them are bytes, as a slice's are known to be
abbrev pub Bytes : List ℕ → Type 0
Bytes bytes = (i : ℕ) → get_or bytes i 0 < 256

-- these bytes stand at a place, and next is the place after them
pub record Stands (xs bytes : List ℕ) (at next : ℕ) : Type 0 where
  pub ahead : drop at bytes ≡ xs ++ drop next bytes
  pub step : next ≡ at + length xs

-- one byte and more ahead of a place
pub byte_ahead : (bytes : List ℕ) (at b : ℕ) (rest : List ℕ) → drop at bytes ≡ b ∷ rest
    → (at < length bytes) × (get_or bytes at 0 ≡ b) × (drop (at + 1) bytes ≡ rest)
byte_ahead bytes at b rest e =
    cases_bool (ltb at (length bytes))
    (λ s.
    let l = ltb-true at (length bytes) s in
    let d = sym (drop-cons bytes at 0 l) ∙ e in
    (l, same_head d, rw add-one (same_tail d)))
    (λ s.
    let l = ltb-false at (length bytes) s in
    let d = sym (drop_of_length-le bytes l) ∙ e in
    let z : ◌≡◌ {A = ℕ} 0 1 = cc in absurd (omega arith))

-- the byte at a place
pub byte_here : (bytes : List ℕ) (at : ℕ) → at < length bytes → drop at bytes ≡ get_or bytes at 0 ∷ drop (at + 1) bytes
byte_here bytes at l = rw (add-one at) (drop-cons bytes at 0 l)

pub stands_byte : (bytes : List ℕ) (at : ℕ) → at < length bytes → Stands (get_or bytes at 0 ∷ []) bytes at (at + 1)
stands_byte bytes at l = record { ahead = byte_here bytes at l; step = refl }

-- past the bytes ahead
pub stands_front : (xs rest bytes : List ℕ) (at : ℕ) → drop at bytes ≡ xs ++ rest
    → drop (at + length xs) bytes ≡ rest
stands_front xs rest bytes at e = sym (drop-drop (length xs) at bytes) ∙ ap (drop (length xs)) e ∙ drop-append_seam xs rest

-- no bytes
pub stands_none : (bytes : List ℕ) (at : ℕ) → Stands [] bytes at at
stands_none bytes at = record { ahead = refl; step = omega arith }

-- bytes after bytes
pub stands_append : {xs ys bytes : List ℕ} {a b c : ℕ} → Stands xs bytes a b → Stands ys bytes b c → Stands (xs ++ ys) bytes a c
stands_append {xs} {ys} {bytes} {a} {b} {c} p q =
    record {
      ahead = p.ahead ∙ ap (λ (r : List ℕ). xs ++ r) q.ahead ∙ sym (append_assoc xs ys (drop c bytes));
      step = omega (arith, p.step, q.step, length-append xs ys);
    }

-- and apart again
pub stands_first : (xs ys : List ℕ) {bytes : List ℕ} {a c : ℕ} → Stands (xs ++ ys) bytes a c → Stands xs bytes a (a + length xs)
stands_first xs ys {bytes} {a} {c} p =
    let e = p.ahead ∙ append_assoc xs ys (drop c bytes) in
    record { ahead = e ∙ ap (λ (r : List ℕ). xs ++ r) (sym (stands_front xs (ys ++ drop c bytes) bytes a e)); step = refl }

pub stands_second : (xs ys : List ℕ) {bytes : List ℕ} {a c : ℕ} → Stands (xs ++ ys) bytes a c → Stands ys bytes (a + length xs) c
stands_second xs ys {bytes} {a} {c} p =
    let e = p.ahead ∙ append_assoc xs ys (drop c bytes) in
    record { ahead = stands_front xs (ys ++ drop c bytes) bytes a e; step = omega (arith, p.step, length-append xs ys) }

-- by another name of the place after them, or of the bytes
pub stands_to : {xs bytes : List ℕ} {a b c : ℕ} → b ≡ c → Stands xs bytes a b → Stands xs bytes a c
stands_to {xs} {bytes} {a} e p = subst (λ (x : ℕ). Stands xs bytes a x) e p

pub stands_by : {xs ys bytes : List ℕ} {a b : ℕ} → xs ≡ ys → Stands xs bytes a b → Stands ys bytes a b
stands_by {bytes = bytes} {a = a} {b = b} e p = subst (λ (zs : List ℕ). Stands zs bytes a b) e p
