-- Laws of the answer of a function that writes an output: a buffer that is too short, and one that is not; what then stands at its
-- front.
use Prim.Native.Nat.{ℕ, ◌≤◌, ◌<◌, min}
use native.Mathlib.Nat.{zero-add}
use native.Mathlib.Omega.{arith}
use mathlib.Core.Path.{◌≡◌, refl, sym, ap, ◌∙◌}
use mathlib.Core.Bool.{true}
use Rattle.std.proofs.Common.{Ok, Err}
use mathlib.Core.List.{List, ◌++◌}
use lib.ListN.{length, take, drop}
use lib.Dec.{ltb}
use lib.Seq.{sets, sets-eq, take_at}
use borrow.Author.Tests.{lt-ltb, le-ltb}
use Rattle.rules.specs.declared.Outcome.TheVariants.{Done, ShortBuffer}
use Rattle.rules.specs.Collecting.{Content, meets}
use Rattle.rules.specs.Outcomes.{number_of, overwritten}
use Rattle.rules.proofs.Basics.{cases_bool}
use Rattle.table.specs.declared.Table.{Table}
use Rattle.table.specs.Stored.{store_table}
use Rattle.table.proofs.GivenLaws.{given_content}
use Rattle.out.specs.Writing.{written_to}
use Rattle.out.specs.Writing as Writing
use Rattle.std.specs.Borrow.{MutBor}
use Rattle.out.specs.Put.{Puts}
use Rattle.out.specs.Page.{Opens, Writes}
use Rattle.out.specs.declared.Page.{Page}
use Rattle.out.proofs.Pages.{opened_puts}
use Rattle.out.specs.declared.Unwritten.TheVariants as Unwritten
use Rattle.out.specs.Answer.{written_as, Outputs}

-- a text that fits is at the front, the rest as it was
pub sets_front : (us l : List ℕ) → length us ≤ length l → sets l 0 us ≡ us ++ drop (length us) l
sets_front us l h = sets-eq us l 0 (omega arith) ∙ ap (λ (k : ℕ). us ++ drop k l) (zero-add (length us))

-- and is all that stands there
pub puts_front : {old text new : List ℕ} {n : ℕ} → Puts old 0 text new n → length text ≤ length old → take n new ≡ text
puts_front {old} {text} {new} {n} p h =
    let size : length text ≡ n = omega (arith, p.after) in
    let whole : new ≡ text ++ drop (length text) old = p.stored ∙ sets_front text old h in
    rw whole (take_at text (drop (length text) old) n size)

pub written_short : (us l : List ℕ) → length l < length us → written_as (Err Unwritten.ShortBuffer) l ≡ written_to us l
unfolding written_as written_to
written_short us l h = rw (lt-ltb (length l) (length us) h)

pub written_done : {us l m : List ℕ} {n : ℕ} → length us ≤ length l → Puts l 0 us m n
    → written_as (Ok n) m ≡ written_to us l
unfolding written_as written_to overwritten
written_done {us} {l} {m} {n} h p =
    let s : n ≡ length us = omega (arith, p.after) in
    let b : m ≡ us ++ drop (length us) l = p.stored ∙ sets_front us l h in
    rw (le-ltb (length l) (length us) h) (λ i. record { outcome = Done; size = s i; buffer = b i })

-- a page on which the whole was written, over a buffer that is long enough; `new` is what the buffer then holds
pub page_done : {l : MutBor (List ℕ)} {p q : Page} {us new : List ℕ} {n : ℕ} → Opens l p → Writes p us q → n ≡ min q.at (length q.buffer.now)
    → new ≡ q.buffer.now → length us ≤ length l.now → written_as (Ok n) new ≡ written_to us l.now
page_done {l} {us = us} o w size left h =
    (λ i. written_as (Ok (size i)) (left i)) ∙ written_done h (opened_puts o w)

-- what was written to the front of a buffer is the output of what the table holds
pub output_bytes : (F : Content → List ℕ) (t : Table) (old : List ℕ) (n : ℕ) (new : List ℕ) → Outputs F t old (Ok n) new
    → (c : Content) → meets c ≡ true → t ≡ store_table c → take n new ≡ F c
unfolding written_as written_to overwritten number_of
output_bytes F t old n new h c m e =
    let w : written_as (Ok n) new ≡ written_to (F c) old = given_content c m e h in
    cases_bool (ltb (length old) (length (F c)))
    (λ s.
    let q : written_as (Ok n) new ≡ record { outcome = ShortBuffer; size = 0; buffer = old } = w ∙ rw s in
    let z : 0 ≡ 8 = ap (λ (x : Writing.Written). number_of x.outcome) q in absurd (omega arith))
    (λ s.
    let q : written_as (Ok n) new ≡ record { outcome = Done; size = length (F c); buffer = F c ++ drop (length (F c)) old } = w ∙ rw s in
    (λ i. take (q i).size (q i).buffer) ∙ take_at (F c) (drop (length (F c)) old) (length (F c)) refl)
