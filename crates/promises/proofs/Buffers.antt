-- What follows for everything that writes an output of a table into a lent buffer, over the output. In order: past the output the
-- buffer is as it was (`write_rest`); a refusal leaves all of it as it was (`write_refused`); what is written where there is room
-- (`write_done`; where the outcome is 0, `output_bytes` of crate out); of outputs of at most so many bytes, no more is written
-- (`write_most`) and as many are always enough (`write_enough`).
use Prim.Native.Nat.{ℕ, ◌≤◌}
use native.Mathlib.Omega.{arith}
use mathlib.Core.Path.{◌≡◌, ap, ◌∙◌}
use mathlib.Core.Bool.{true}
use mathlib.Core.List.{List}
use lib.ListN.{length, drop}
use lib.Seq.{drop-append_seam}
use borrow.Author.Tests.{le-ltb}
use Rattle.rules.specs.Collecting.{Content, meets}
use Rattle.rules.specs.Outcomes.{number_of, overwritten}
use Rattle.table.specs.declared.Table.{Table}
use Rattle.table.specs.Stored.{store_table, Stored}
use Rattle.table.proofs.GivenLaws.{given_content}
use Rattle.out.specs.Writing.{written_to}
use Rattle.std.specs.Prelude.{Result, Ok}
use Rattle.out.specs.declared.Unwritten.{Unwritten}
use Rattle.out.specs.Answer.{outcome_of, written_as, Outputs}
use Rattle.promises.proofs.Contracts.{told, size_of}
use Rattle.promises.proofs.Writing.{WriteAnswer, written, too_short, no_table, written_is}

module _ (F : Content → List ℕ) (t : Table) (old : List ℕ) (r : Result ℕ Unwritten) (new : List ℕ) where
  pub write_rest : WriteAnswer F t old r new → drop (size_of r) new ≡ drop (size_of r) old
  write_rest (written c m e h o s b) = let z : size_of r ≡ length (F c) = ap size_of s in rw (z, b) (drop-append_seam (F c) (drop (length (F c)) old))
  write_rest (too_short c m e h o s b) = ap (drop (size_of r)) b
  write_rest (no_table n o s b) = ap (drop (size_of r)) b

  pub write_refused : WriteAnswer F t old r new → (number_of (told outcome_of r) ≡ 0 → ⊥) → new ≡ old
  write_refused (written c m e h o s b) n = absurd (n o)
  write_refused (too_short c m e h o s b) n = b
  write_refused (no_table k o s b) n = b

  pub write_done : Outputs F t old r new → (c : Content) → meets c ≡ true → t ≡ store_table c → length (F c) ≤ length old
      → (number_of (told outcome_of r) ≡ 0) × (r ≡ Ok (length (F c))) × (new ≡ overwritten (F c) old)
  unfolding written_as written_to number_of
  write_done w c m e l =
      written_is r (Ok (length (F c))) new (overwritten (F c) old) (given_content c m e w ∙ rw (le-ltb (length old) (length (F c)) l))

  module _ (most : ℕ) (within : (c : Content) → meets c ≡ true → length (F c) ≤ most) where
    pub write_most : WriteAnswer F t old r new → size_of r ≤ most
    write_most (written c m e h o s b) = let z : size_of r ≡ length (F c) = ap size_of s in omega (arith, within c m)
    write_most (too_short c m e h o s b) = let z : size_of r ≡ 0 = ap size_of s in omega arith
    write_most (no_table n o s b) = let z : size_of r ≡ 0 = ap size_of s in omega arith

    pub write_enough : WriteAnswer F t old r new → Stored t → most ≤ length old → number_of (told outcome_of r) ≡ 0
    write_enough (written c m e h o s b) k l = o
    write_enough (too_short c m e h o s b) k l = absurd (omega (arith, within c m))
    write_enough (no_table n o s b) k l = absurd (n k)
