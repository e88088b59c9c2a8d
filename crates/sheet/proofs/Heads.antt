-- What stands in front of a set's identifiers: its numbers, one after another.
use Prim.Native.Nat.{ℕ}
use mathlib.Core.Path.{◌≡◌, refl}
use mathlib.Core.List.{List}
use mathlib.Core.Option.{Option, some}
use lib.Dec.{leb, eqb}
use Rattle.std.specs.Prelude as lang
use Rattle.rules.specs.Collecting.{names_meet}
use Rattle.layout.specs.Parse.{Read, and_then, read_if, key_fits, count_fits, Head, read_head}
use Rattle.sheet.specs.declared.Reader.{Reader}
use Rattle.sheet.specs.declared.SetHead.{SetHead}
use Rattle.sheet.specs.Reading.{Reads, head_of}
use Rattle.sheet.proofs.Steps.{then_not, then_reads, reads_made}

abbrev head_with : ℕ → ℕ → ℕ → ℕ → Head
head_with key on named count = record { key = key; on = eqb on 1; named = named; count = count }

-- what follows the named kinds, the state, the key
abbrev after_named : ℕ → ℕ → List ℕ → ℕ → ℕ → Option (Read Head)
after_named key on bytes named c = and_then (read_if count_fits bytes c) (λ count next. some (record { value = head_with key on named count; next = next }))

abbrev after_on : ℕ → List ℕ → ℕ → ℕ → Option (Read Head)
after_on key bytes on b = and_then (read_if (names_meet key) bytes b) (λ named c. after_named key on bytes named c)

abbrev after_key : List ℕ → ℕ → ℕ → Option (Read Head)
after_key bytes key a = and_then (read_if (λ on. leb on 1) bytes a) (λ on b. after_on key bytes on b)

module _ {old new end : Reader} {given : lang.Option SetHead} where
  pub no_key : (last : ℕ) → Reads (λ n. n) (read_if (key_fits last) old.bytes.now old.at) old lang.None new → given ≡ lang.None
      → Reads head_of (read_head last old.bytes.now old.at) old given end
  unfolding read_head
  no_key last e h = then_not _ e h

  pub with_key : (last : ℕ) {key : ℕ} → Reads (λ n. n) (read_if (key_fits last) old.bytes.now old.at) old (lang.Some key) new
      → Reads head_of (after_key new.bytes.now key new.at) new given end → Reads head_of (read_head last old.bytes.now old.at) old given end
  unfolding read_head
  with_key last e h = then_reads after_key e h

  pub with_on : (key : ℕ) {on : ℕ} → Reads (λ n. n) (read_if (λ on. leb on 1) old.bytes.now old.at) old (lang.Some on) new
      → Reads head_of (after_on key new.bytes.now on new.at) new given end → Reads head_of (after_key old.bytes.now key old.at) old given end
  with_on key e h = then_reads (after_on key) e h

  pub with_named : (key on : ℕ) {named : ℕ} → Reads (λ n. n) (read_if (names_meet key) old.bytes.now old.at) old (lang.Some named) new
      → Reads head_of (after_named key on new.bytes.now named new.at) new given end → Reads head_of (after_on key old.bytes.now on old.at) old given end
  with_named key on e h = then_reads (after_named key on) e h

pub with_count : {old new : Reader} (key on named : ℕ) {count : ℕ} → Reads (λ n. n) (read_if count_fits old.bytes.now old.at) old (lang.Some count) new
    → Reads head_of (after_named key on old.bytes.now named old.at) old
    (lang.Some (record { key = key; on = eqb on 1; named = named; count = count })) new
unfolding head_of
with_count key on named e = reads_made (head_with key on named) (λ n. record { key = key; on = eqb on 1; named = named; count = n }) (λ n. refl) e
