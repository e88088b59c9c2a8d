-- What was written to the front of a buffer is what was asked for, of what was read: a recording's bytes, a sheet's.
use Prim.Native.Nat.{ℕ}
use mathlib.Core.Path.{◌≡◌, refl, ◌∙◌}
use mathlib.Core.List.{List}
use lib.ListN.{take}
use Rattle.rules.specs.declared.Outcome.TheVariants.{Done}
use Rattle.rules.specs.Collecting.{nothing}
use Rattle.rules.specs.Outcomes.{read_recording}
use Rattle.rules.proofs.TableRules.{nothing_meets}
use Rattle.rules.proofs.LinkageLaws.{recording_keeps}
use Rattle.layout.proofs.Laws.{load_meets}
use Rattle.table.specs.declared.Table.{Table}
use Rattle.std.specs.Prelude.{Ok}
use Rattle.out.specs.Answer.{Outputs}
use Rattle.out.proofs.Answers.{output_bytes}
use Rattle.sheet.specs.declared.Loaded.{Loaded}
use Rattle.sheet.specs.Loading.{Loads}
use Rattle.outputs.specs.declared.Output.{Output}
use Rattle.outputs.specs.Output.{output_of}
use Rattle.input.specs.declared.Received.{Received}
use Rattle.input.specs.declared.Fetched.{Fetched}
use Rattle.input.specs.Reading.{Reading, Loading}
use Rattle.linkage.specs.Made.{of_recording, of_sheet, Made, Holding}

-- a recording
pub recording_held : (r : Received) → Reading r → Holding r.table r.rest
recording_held r a =
    record {
      content = read_recording nothing a.bytes;
      meets = recording_keeps nothing a.bytes a.each nothing_meets;
      stored = a.table;
      came = of_recording a.bytes refl a.rest;
    }

-- a sheet
sheet_held : (bytes : List ℕ) (l : Loaded) → Loads bytes l → l.outcome ≡ Done → Holding l.table 0
sheet_held bytes l a d = record { content = a.left; meets = load_meets a.load; stored = a.stored; came = of_sheet bytes (rw d at a.load) refl }

pub fetched_held : (f : Fetched) → Loading f → f.loaded.outcome ≡ Done → Holding f.loaded.table 0
fetched_held f a d = sheet_held a.bytes f.loaded a.loads d

-- what is made of either
pub held_made : (asked : Output) (t : Table) (rest : ℕ) (old : List ℕ) (n : ℕ) (new made : List ℕ) → Holding t rest
    → Outputs (output_of asked rest) t old (Ok n) new → made ≡ take n new → Made asked made
held_made asked t rest old n new made a h e =
    record {
      content = a.content;
      rest = rest;
      came = a.came;
      whole = e ∙ output_bytes (output_of asked rest) t old n new h a.content a.meets a.stored;
    }
