-- The entries of linkage by places: what crate rules says of any family (Entries.antt there), of this one.
use Prim.Native.Nat.{ℕ, ◌<◌}
use mathlib.Core.Path.{◌≡◌}
use mathlib.Core.Bool.{true, false}
use mathlib.Core.Option.{none}
use lib.ListN.{length, get_or}
use Rattle.rules.specs.Collecting.{linkage, linkage_rules, Held, Entries, entries_meet, entry_meets}
use Rattle.rules.proofs.Entries as Over

-- the entry that stands past the end
abbrev pub no_entry : Held
no_entry = record { key = 0; state = false; shown = none; draft = none; stamp = 0 }

-- a key stands at its place
abbrev pub Here : Entries → ℕ → Type 0
Here c k = Over.Here linkage no_entry c k

pub entry_at_law : (c : Entries) → entries_meet c ≡ true → (i : ℕ) → i < length c → entry_meets (get_or c i no_entry) ≡ true
unfolding entries_meet
entry_at_law c m i h = Over.entry_at_law linkage linkage_rules no_entry c m i h
