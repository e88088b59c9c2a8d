-- A contract admits a single answer. In order: an equation; a run of stores; a given table (`given_single`), by it reading a
-- block, a recording, forgetting, copying out with both buffers, the totals; an output with its buffer (`write_single`), by it the
-- listing with numbers and without, the columns, the totals as a line, the sheet and the blocks for air; loading a sheet; a test.
use Prim.Native.Nat.{ℕ}
use mathlib.Core.Path.{◌≡◌, refl, sym, ap, ◌∙◌}
use mathlib.Core.Bool.{Bool, true, false}
use mathlib.Core.List.{List, map}
use Rattle.rules.specs.declared.Outcome.{Outcome}
use Rattle.rules.specs.declared.Outcome.TheVariants.{Done, NotHeld, WrongTable, NotShown}
use Rattle.rules.specs.Collecting.{Content}
use Rattle.rules.specs.Outcomes.{read_block, copy_out}
use Rattle.rules.specs.Outcomes as Outcomes
use Rattle.pieces.specs.Air.{air}
use Rattle.out.specs.Writing.{written_to}
use Rattle.out.specs.Writing as Writing
use Rattle.layout.specs.Sheet.{sheet}
use Rattle.text.specs.Listing.{listing}
use Rattle.text.specs.Confirmed.{confirmed_listing}
use Rattle.screen.specs.Screen.{totals_text}
use Rattle.totals.specs.Totals.{totals_of}
use Rattle.totals.specs.declared.Totals.{Totals}
use Rattle.layout.proofs.Laws.{load_single}
use Rattle.lists.specs.Stored.{Tested}
use Rattle.table.specs.declared.Table.{Table}
use Rattle.table.specs.declared.Forgotten.{Forgotten}
use Rattle.table.specs.declared.Copied.{Copied}
use Rattle.table.specs.declared.NotCopied.{NotCopied}
use Rattle.table.specs.declared.WrongTable as Uncounted
use Rattle.table.specs.Stored.{store_table, Stored, Given, stored, not_stored}
use Rattle.table.specs.Answers.{forgotten_as, copied_as}
use Rattle.table.specs.Answers as Copying
use Rattle.table.proofs.GivenLaws.{given_content}
use Rattle.reading.specs.declared.Answer.{Answer}
use Rattle.reading.specs.declared.Recorded.{Recorded}
use Rattle.reading.specs.Runs.{run_as, recorded_as}
use Rattle.std.specs.Prelude.{Result, Ok, Err}
use Rattle.out.specs.declared.Unwritten.{Unwritten}
use lib.ListN.{length}
use Rattle.std.specs.Borrow.{MutBor}
use Rattle.rules.specs.Field.{Pair, number_in, kind_in}
use Rattle.lists.specs.declared.Pairs.{Pairs}
use Rattle.lists.specs.Stored.{listed}
use Rattle.lists.proofs.PairLaws.{numbers_of_paired, kinds_of_paired}
use Rattle.out.specs.Put.{Puts}
use Rattle.out.specs.Page.{Opens, Writes}
use Rattle.out.specs.declared.Page.{Page}
use Rattle.out.specs.Answer.{outcome_of, written_as, Outputs}
use Rattle.sheet.specs.declared.Loaded.{Loaded}
use Rattle.sheet.specs.Loading.{Loads}
use Rattle.columns.specs.Columns.{columns}
use Rattle.outputs.specs.declared.Output.{Output}
use Rattle.outputs.specs.Output.{output_of}
use Rattle.promises.proofs.Contracts.{ReadsBlock, ReadsRecording, Forgets, CopiesOut, Counts, WritesListing, WritesConfirmed, WritesColumns, WritesTotals, WritesSheet, WritesAir, WritesOutput}

-- a result that an equation says
pub equal_single : {A : Type 0} {x y z : A} → x ≡ z → y ≡ z → x ≡ y
equal_single a b = a ∙ sym b

-- a text stored into a buffer: what the buffer holds then, and the place after the text
pub puts_single : {old text new other : List ℕ} {at next past : ℕ} → Puts old at text new next → Puts old at text other past
    → (new ≡ other) × (next ≡ past)
puts_single a b = (equal_single a.stored b.stored, equal_single a.after b.after)

-- a text written on a page: what its buffer holds then, and the place after the text
pub writes_single : {old new other : Page} {text : List ℕ} → Writes old text new → Writes old text other
    → (new.buffer.now ≡ other.buffer.now) × (new.at ≡ other.at)
writes_single a b = (equal_single a.puts.stored b.puts.stored, equal_single a.reached b.reached)

-- an empty page over a buffer: what it holds, and the place 0
pub opens_single : {buffer : MutBor (List ℕ)} {page other : Page} → Opens buffer page → Opens buffer other
    → (page.buffer.now ≡ other.buffer.now) × (page.at ≡ other.at)
opens_single a b = (equal_single a.same b.same, equal_single a.first b.first)

-- identifiers, as many kinds as numbers: what they list says both
pub pairs_single : (p q : Pairs) (ps : List Pair) → listed p ≡ ps → length p.kinds.now ≡ length p.numbers.now
    → listed q ≡ ps → length q.kinds.now ≡ length q.numbers.now → (p.numbers.now ≡ q.numbers.now) × (p.kinds.now ≡ q.kinds.now)
pairs_single p q ps a alike b alike' =
    let same : listed p ≡ listed q = equal_single a b in (
      sym (numbers_of_paired p.kinds.now p.numbers.now alike) ∙ ap (map number_in) same ∙ numbers_of_paired q.kinds.now q.numbers.now alike',
      sym (kinds_of_paired p.kinds.now p.numbers.now alike) ∙ ap (map kind_in) same ∙ kinds_of_paired q.kinds.now q.numbers.now alike',
    )

-- where an answer is what the content gives, or else one certain thing, two answers are the same
pub given_single : {A : Type 0} (t : Table) (x y z : A) (F : Content → A) → Given t (λ c. x ≡ F c) (x ≡ z) → Given t (λ c. y ≡ F c) (y ≡ z) → x ≡ y
unfolding Stored
given_single t x y z F (stored c f p a) b = a ∙ sym (given_content c f p b)
given_single t x y z F (not_stored n a) (stored d g q b) = absurd (n (d, g, q))
given_single t x y z F (not_stored n a) (not_stored m b) = a ∙ sym b

pub read_block_single : (t : Table) (fib : List ℕ) (r q : Answer) → ReadsBlock t fib r → ReadsBlock t fib q → r ≡ q
read_block_single t fib r q a b = given_single t r q _ (λ c. run_as (read_block c fib)) a b

pub read_recording_single : (t : Table) (bytes : List ℕ) (r q : Recorded) → ReadsRecording t bytes r → ReadsRecording t bytes q → r ≡ q
read_recording_single t bytes r q a b = given_single t r q _ (λ c. recorded_as c bytes) a b

pub forget_key_single : (t : Table) (k : ℕ) (r q : Forgotten) → Forgets t k r → Forgets t k q → r ≡ q
forget_key_single t k r q a b = given_single t r q _ (forgotten_as k) a b

pub totals_single : (t : Table) (r q : Result Totals Uncounted.WrongTable) → Counts t r → Counts t q → r ≡ q
totals_single t r q a b = given_single t r q _ (λ c. Ok (totals_of c)) a b

-- reasons with one outcome are one, and no reason is outcome 0
reason_in : Outcome → NotCopied
reason_in WrongTable = NotCopied.WrongTable
reason_in NotHeld = NotCopied.NotHeld
reason_in NotShown = NotCopied.NotShown
reason_in other = NotCopied.ShortBuffer

reason_back : (why : NotCopied) → reason_in (Copying.outcome_of why) ≡ why
unfolding reason_in
reason_back NotCopied.WrongTable = refl
reason_back NotCopied.NotHeld = refl
reason_back NotCopied.NotShown = refl
reason_back NotCopied.ShortBuffer = refl

pub uncopied_done : (why : NotCopied) → Copying.outcome_of why ≡ Done → ⊥
uncopied_done NotCopied.WrongTable e = cc
uncopied_done NotCopied.NotHeld e = cc
uncopied_done NotCopied.NotShown e = cc
uncopied_done NotCopied.ShortBuffer e = cc

-- an answer and both buffers, taken apart
pub copied_apart : (r q : Result Copied NotCopied) (ns ks ms js : List ℕ) → copied_as r ns ks ≡ copied_as q ms js → (r ≡ q) × (ns ≡ ms) × (ks ≡ js)
unfolding copied_as Outcomes.not_copied
copied_apart (Ok r) (Ok q) ns ks ms js e = (
  λ i. Ok (record { key = (e i).key; on = (e i).on; named = (e i).named; confirmed = (e i).confirmed; count = (e i).count }),
  ap (λ (x : Outcomes.Copied). x.numbers) e,
  ap (λ (x : Outcomes.Copied). x.kinds) e,
)
copied_apart (Ok r) (Err why) ns ks ms js e = absurd (uncopied_done why (sym (ap (λ (x : Outcomes.Copied). x.outcome) e)))
copied_apart (Err why) (Ok q) ns ks ms js e = absurd (uncopied_done why (ap (λ (x : Outcomes.Copied). x.outcome) e))
copied_apart (Err why) (Err other) ns ks ms js e = (
  ap Err (sym (reason_back why) ∙ ap (λ (x : Outcomes.Copied). reason_in x.outcome) e ∙ reason_back other),
  ap (λ (x : Outcomes.Copied). x.numbers) e,
  ap (λ (x : Outcomes.Copied). x.kinds) e,
)

pub copy_out_single : (t : Table) (k : ℕ) (ns ks : List ℕ) (r q : Result Copied NotCopied) (nr kr nq kq : List ℕ)
    → CopiesOut t k ns ks r nr kr → CopiesOut t k ns ks q nq kq → (r ≡ q) × (nr ≡ nq) × (kr ≡ kq)
copy_out_single t k ns ks r q nr kr nq kq a b =
    copied_apart r q nr kr nq kq (given_single t (copied_as r nr kr) (copied_as q nq kq) _ (λ c. copy_out k c ns ks) a b)

-- the same of the reasons of what writes
unwritten_apart : (why other : Unwritten) → outcome_of why ≡ outcome_of other → why ≡ other
unwritten_apart Unwritten.WrongTable Unwritten.WrongTable e = refl
unwritten_apart Unwritten.WrongTable Unwritten.ShortBuffer e = cc
unwritten_apart Unwritten.ShortBuffer Unwritten.WrongTable e = cc
unwritten_apart Unwritten.ShortBuffer Unwritten.ShortBuffer e = refl

unwritten_done : (why : Unwritten) → outcome_of why ≡ Done → ⊥
unwritten_done Unwritten.WrongTable e = cc
unwritten_done Unwritten.ShortBuffer e = cc

-- an answer and its buffer, taken apart
pub written_apart : (r q : Result ℕ Unwritten) (a b : List ℕ) → written_as r a ≡ written_as q b → (r ≡ q) × (a ≡ b)
unfolding written_as
written_apart (Ok n) (Ok m) a b e = (ap (λ (w : Writing.Written). Ok w.size) e, ap (λ (w : Writing.Written). w.buffer) e)
written_apart (Ok n) (Err why) a b e = absurd (unwritten_done why (sym (ap (λ (w : Writing.Written). w.outcome) e)))
written_apart (Err why) (Ok n) a b e = absurd (unwritten_done why (ap (λ (w : Writing.Written). w.outcome) e))
written_apart (Err why) (Err other) a b e = (
  ap Err (unwritten_apart why other (ap (λ (w : Writing.Written). w.outcome) e)),
  ap (λ (w : Writing.Written). w.buffer) e,
)

pub write_single : (F : Content → List ℕ) (t : Table) (old : List ℕ) (r q : Result ℕ Unwritten) (new other : List ℕ)
    → Outputs F t old r new → Outputs F t old q other → (r ≡ q) × (new ≡ other)
write_single F t old r q new other a b =
    written_apart r q new other (given_single t (written_as r new) (written_as q other) _ (λ c. written_to (F c) old) a b)

pub write_listing_single : (t : Table) (over : ℕ) (old : List ℕ) (r q : Result ℕ Unwritten) (new other : List ℕ)
    → WritesListing t over old r new → WritesListing t over old q other → (r ≡ q) × (new ≡ other)
write_listing_single t over = write_single (λ c. listing c over) t

pub write_confirmed_single : (t : Table) (over : ℕ) (old : List ℕ) (r q : Result ℕ Unwritten) (new other : List ℕ)
    → WritesConfirmed t over old r new → WritesConfirmed t over old q other → (r ≡ q) × (new ≡ other)
write_confirmed_single t over = write_single (λ c. confirmed_listing c over) t

pub write_columns_single : (t : Table) (csv numbered : Bool) (old : List ℕ) (r q : Result ℕ Unwritten) (new other : List ℕ)
    → WritesColumns t csv numbered old r new → WritesColumns t csv numbered old q other → (r ≡ q) × (new ≡ other)
write_columns_single t csv numbered = write_single (columns csv numbered) t

pub write_totals_single : (t : Table) (old : List ℕ) (r q : Result ℕ Unwritten) (new other : List ℕ)
    → WritesTotals t old r new → WritesTotals t old q other → (r ≡ q) × (new ≡ other)
write_totals_single = write_single totals_text

pub write_sheet_single : (t : Table) (old : List ℕ) (r q : Result ℕ Unwritten) (new other : List ℕ)
    → WritesSheet t old r new → WritesSheet t old q other → (r ≡ q) × (new ≡ other)
write_sheet_single = write_single sheet

pub write_air_single : (t : Table) (old : List ℕ) (r q : Result ℕ Unwritten) (new other : List ℕ)
    → WritesAir t old r new → WritesAir t old q other → (r ≡ q) × (new ≡ other)
write_air_single = write_single air

pub write_output_single : (o : Output) (t : Table) (over : ℕ) (old : List ℕ) (r q : Result ℕ Unwritten) (new other : List ℕ)
    → WritesOutput o t over old r new → WritesOutput o t over old q other → (r ≡ q) × (new ≡ other)
write_output_single o t over = write_single (output_of o over) t

pub load_sheet_single : (bytes : List ℕ) (r q : Loaded) → Loads bytes r → Loads bytes q → r ≡ q
load_sheet_single bytes r q a b =
    let s = load_single a.load b.load in
    let t = a.stored ∙ ap store_table s.1 ∙ sym b.stored in
    λ i. record { outcome = s.0 i; table = t i }

-- a test that is sound and complete, as that of the table rules
pub tested_single : {P : Type 0} (a b : Bool) → Tested a P → Tested b P → a ≡ b
tested_single true b v w = sym (w.complete (v.sound refl))
tested_single false true v w = v.complete (w.sound refl)
tested_single false false v w = refl
