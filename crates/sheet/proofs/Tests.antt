-- Numbers that must pass a test. In order: a number and its test; what was handed over passed.
use Prim.Native.Nat.{ℕ}
use mathlib.Core.Path.{◌≡◌, refl}
use mathlib.Core.Bool.{Bool, true, false, cond}
use mathlib.Core.List.{List}
use mathlib.Core.Option.{Option, none, some, some-injective}
use Rattle.std.specs.Prelude as lang
use Rattle.layout.specs.Parse.{Read, read_number, read_if}
use Rattle.layout.proofs.ParseLaws.{then_some, cond_some}
use Rattle.sheet.specs.declared.Reader.{Reader}
use Rattle.sheet.specs.Reading.{Reads}
use Rattle.sheet.proofs.Steps.{was_read, reads_none, then_not, reads_as, reads_here, then_reads}

abbrev tested : (ℕ → Bool) → List ℕ → ℕ → ℕ → Option (Read ℕ)
tested test bytes n next = cond (test n) (some (record { value = n; next = next })) none

module _ (test : ℕ → Bool) {old new : Reader} where
  pub if_not : {given : lang.Option ℕ} → Reads (λ n. n) (read_number old.bytes.now old.at) old lang.None new → given ≡ lang.None
      → Reads (λ n. n) (read_if test old.bytes.now old.at) old given new
  unfolding read_if
  if_not e h = then_not _ e h

  pub if_failed : {n : ℕ} → Reads (λ n. n) (read_number old.bytes.now old.at) old (lang.Some n) new → test n ≡ false
      → Reads (λ n. n) (read_if test old.bytes.now old.at) old lang.None new
  unfolding read_if
  if_failed e t = then_reads (tested test) e (reads_none (rw t) refl)

  pub if_passed : {n : ℕ} → Reads (λ n. n) (read_number old.bytes.now old.at) old (lang.Some n) new → test n ≡ true
      → Reads (λ n. n) (read_if test old.bytes.now old.at) old (lang.Some n) new
  unfolding read_if
  if_passed e t = then_reads (tested test) e (reads_as (rw t) reads_here)

-- what was read passed
pub if_passes : (test : ℕ → Bool) (bytes : List ℕ) (at : ℕ) {r : Read ℕ} → read_if test bytes at ≡ some r → test r.value ≡ true
unfolding read_if
if_passes test bytes at e =
    then_some (read_number bytes at) _ e (λ a f g.
    let c = cond_some (test a.value) (some a) g in
    rw (← some-injective _ _ c.1) c.0)

pub if_true : (test : ℕ → Bool) {old new : Reader} {n : ℕ} → Reads (λ n. n) (read_if test old.bytes.now old.at) old (lang.Some n) new → test n ≡ true
if_true test {old} e = let m = was_read e in rw m.value_is (if_passes test old.bytes.now old.at m.there)
