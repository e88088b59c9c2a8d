-- What forgetting and copying out answer, by the definitions of crate rules.
use Rattle.std.specs.Prelude.{ℕ, Bool, cond, ◌||◌, List, length, take, leb, ltb, eqb, Result, Ok, Err, Option, Some, None}
use Rattle.std.specs.List.{list_all}
use Rattle.rules.specs.declared.Outcome.{Outcome}
use Rattle.rules.specs.declared.Outcome.TheVariants.{Done, NotHeld, ShortBuffer, WrongTable, NotShown}
use Rattle.rules.specs.Collecting.{Content}
use Rattle.rules.specs.Outcomes as Outcomes
use Rattle.rules.specs.Outcomes.{forget_outcome, forgotten, not_copied, overwritten}
use Rattle.lists.specs.declared.IdList.{IdList}
use Rattle.sets.specs.declared.Sets.{Sets}
use Rattle.sets.specs.Places.{place_in, stands_at}
use Rattle.table.specs.declared.Forgotten.{Forgotten}
use Rattle.table.specs.declared.WrongTable as Totals
use Rattle.table.specs.declared.Copied.{Copied}
use Rattle.table.specs.declared.NotCopied.{NotCopied}
use Rattle.table.specs.Stored.{store_table}

-- the one refusal to tell the totals
abbrev pub no_totals_told : Totals.WrongTable
no_totals_told = record {}

-- forgetting a key of a content that meets the rules: 7 where it is not held; what is left is the content without it
unfoldable pub forgotten_as : ℕ → Content → Forgotten
forgotten_as k c = record { outcome = forget_outcome k c; table = store_table (forgotten k c) }

-- the outcome with whose number a refusal to copy out is answered
abbrev pub outcome_of : NotCopied → Outcome
outcome_of NotCopied.WrongTable = WrongTable
outcome_of NotCopied.NotHeld = NotHeld
outcome_of NotCopied.NotShown = NotShown
outcome_of NotCopied.ShortBuffer = ShortBuffer

-- the answer and both buffers as one: a set, or a refusal, of which nothing is written
unfoldable pub copied_as : Result Copied NotCopied → List ℕ → List ℕ → Outcomes.Copied
copied_as (Ok r) numbers kinds =
    record { outcome = Done; key = r.key; on = r.on; named = r.named; confirmed = r.confirmed; count = r.count; numbers = numbers; kinds = kinds }
copied_as (Err why) numbers kinds = not_copied (outcome_of why) numbers kinds

-- ---- inside

-- the place at which a key stands, where it is held
unfoldable pub place_held : Sets → ℕ → Option ℕ
place_held t k = let at = place_in (take t.count t.keys) k in cond (stands_at t.keys t.count at k) (Some at) None

-- no number is above another
abbrev pub all_within : ℕ → List ℕ → Bool
all_within most ns = list_all (λ n. leb n most) ns

-- what is handed out of a stored list, for a key, its state and its number: 11 where there is none, 8 where a buffer is too short
unfoldable pub copy_stored : IdList → ℕ → Bool → ℕ → List ℕ → List ℕ → Outcomes.Copied
copy_stored s k on confirmed ns ks =
    cond (eqb s.len 0) (not_copied NotShown ns ks)
    (cond (ltb (length ns) s.len || ltb (length ks) s.len) (not_copied ShortBuffer ns ks)
    (record {
      outcome = Done;
      key = k;
      on = on;
      named = s.named;
      confirmed = confirmed;
      count = s.len;
      numbers = overwritten (take s.len s.numbers) ns;
      kinds = overwritten (take s.len s.kinds) ks;
    }))
