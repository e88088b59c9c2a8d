-- A table on the desk: what the loops that read blocks keep (`Kept`, `Between`), and their turns, by those of Turns.antt. In order: what
-- a table lays out and gathers again; a field of a held key, of a new key, one that changes nothing; the turns of both loops.
use Prim.Native.Nat.{ℕ, zero, suc, ◌+◌, ◌-◌, ◌*◌, ◌<◌, ◌≤◌, min}
use native.Mathlib.Omega.{arith}
use mathlib.Core.Path.{◌≡◌, refl, sym, ap, ap₂, ◌∙◌, subst, subst₂}
use mathlib.Core.Bool.{true, false, cond, ◌&&◌}
use mathlib.Core.List.{List, [], ◌∷◌, ◌++◌, map, map-append}
use mathlib.Core.Option.{Option, none, some}
use lib.ListN.{length, get_or, set, take, drop, replicate, length-map, length-set}
use lib.Dec.{ltb, eqb}
use Rattle.rules.specs.Arrays.{padded}
use Rattle.rules.specs.declared.Note.{Note}
use Rattle.rules.specs.declared.Note.TheVariants.{Opened}
use Rattle.rules.specs.Collecting.{linkage, with_sets, said, IdSet, Held, Entries, sets_meet, entries_meet, entry_meets, if_there, next_block, most_keys, most_ids}
use Rattle.rules.specs.Field.{number_in, kind_in}
use Rattle.rules.specs.Family.{step as rule_step}
use Rattle.rules.specs.Outcomes.{verdict}
use Rattle.rules.proofs.Basics.{and_left, and_right, get_d_map}
use Rattle.rules.proofs.Arrays.{take_padded}
use Rattle.rules.proofs.TableRules.{table_rules, sets_meet_law, entry_rules, set_rules}
use Rattle.field.specs.declared.Field.{Field}
use Rattle.field.specs.FieldStep.{key_in, meaning}
use Rattle.lists.specs.declared.IdList.{IdList}
use Rattle.lists.specs.Stored.{store_list, empty_list, store_maybe}
use Rattle.lists.specs.Grown.{with_field}
use Rattle.sets.specs.declared.Sets.{Sets}
use Rattle.sets.specs.Stored.{store_sets, shown_in, draft_in, opened_sets, with_lists, past}
use Rattle.table.specs.declared.Table.{Table}
use Rattle.table.specs.Stored.{table_of, Stored}
use Rattle.totals.specs.declared.Totals.{Totals}
use Rattle.totals.specs.Kept.{exchanged_set}
use Rattle.sets.specs.Places.{place_in}
use Rattle.block.specs.declared.Spots.{Spots}
use Rattle.std.specs.Prelude.{Ok, Err, unwrap_or}
use Rattle.rules.specs.declared.Outcome.TheVariants.{Done}
use Rattle.block.specs.declared.Refused.{Refused}
use Rattle.block.specs.Judged.{field_in, no_spot, no_spots, outcome_of}
use Rattle.block.proofs.Meaning.{body_at, JudgedAs}
use Rattle.reading.specs.declared.Reply.{Reply}
use Rattle.reading.specs.declared.Desk.{Desk}
use Rattle.reading.specs.declared.rows.Column.{Column}
use Rattle.reading.specs.declared.rows.Row.{Row}
use Rattle.reading.specs.declared.rows.Rows.{Rows}
use Rattle.reading.specs.declared.rows.Stepped.{Stepped}
use Rattle.reading.specs.Steps.{is_showing, HeldStep, confirmed_by, opens_in, unheld_note}
use Rattle.reading.specs.Desks.{desk_of, lists_of, sets_of, table_in, Shelved, Ready, LaidOut, shown_then, Exchanges, Takes}
use Rattle.reading.specs.Gathered.{row_list, gathered, packed, no_rows, Whole, Laid, Unchanged, RowStep}
use Rattle.reading.specs.Runs.{no_reply, reply_to, reply_with, Runs}
use Rattle.sets.proofs.StoreLaws.{set_at}
use Rattle.reading.proofs.RunLaws.{Going, going_first, going_end}
use Rattle.reading.proofs.Turns.{Fits', fits_now, place_short, turn_held, turn_new, turn_same, going_facts, going_took, turn_taken, turn_refused}
use Rattle.reading.proofs.RowLaws.{row_of}
use Rattle.reading.proofs.GatheredLaws.{length_gathered, gathered_at, gathered_set, gathered_none, unchanged_laid, unchanged_set, unchanged_none, splice_long}

-- ---- a stored list is packed, and so are all lists of a stored table

packed_some : (l : IdSet) → length l.items ≤ most_ids → packed (store_list l) ≡ store_list l
unfolding packed row_list store_list
packed_some l h =
    let n : min (length l.items) most_ids ≡ length l.items = omega arith in
    let ns = ap (λ (k : ℕ). padded most_ids 0 (take k (padded most_ids 0 (map number_in l.items)))) n ∙ ap (padded most_ids 0) (take_padded most_ids 0 (map number_in l.items) (length l.items) (length-map l.items number_in)) in
    let ks = ap (λ (k : ℕ). padded most_ids 0 (take k (padded most_ids 0 (map kind_in l.items)))) n ∙ ap (padded most_ids 0) (take_padded most_ids 0 (map kind_in l.items) (length l.items) (length-map l.items kind_in)) in
    λ i. record { numbers = ns i; kinds = ks i; len = n i; named = l.named }

packed_none : packed empty_list ≡ empty_list
unfolding packed row_list empty_list padded
packed_none = refl

packed_maybe : (key : ℕ) (o : Option IdSet) → if_there key o ≡ true → packed (store_maybe o) ≡ store_maybe o
unfolding store_maybe if_there
packed_maybe key none m = packed_none
packed_maybe key (some l) m = packed_some l ((set_rules key l).0 m).short

packed_unused : (n : ℕ) → map packed (replicate n empty_list) ≡ replicate n empty_list
packed_unused zero = refl
packed_unused (suc n) = ap₂ ◌∷◌ packed_none (packed_unused n)

packed_entries : (v : Held → IdList) → ((e : Held) → entry_meets e ≡ true → packed (v e) ≡ v e) → (c : Entries) → entries_meet c ≡ true → map packed (map v c) ≡ map v c
unfolding entries_meet
packed_entries v ok [] m = refl
packed_entries v ok (e ∷ c) m = ap₂ ◌∷◌ (ok e (and_left (entry_meets e) (entries_meet c) m)) (packed_entries v ok c (and_right (entry_meets e) (entries_meet c) m))

packed_column : (v : Held → IdList) → ((e : Held) → entry_meets e ≡ true → packed (v e) ≡ v e) → (c : Entries) → entries_meet c ≡ true
    → map packed (padded most_keys empty_list (map v c)) ≡ padded most_keys empty_list (map v c)
unfolding padded
packed_column v ok c m = map-append packed (map v c) (replicate (most_keys - length (map v c)) empty_list) ∙ ap₂ ◌++◌ (packed_entries v ok c m) (packed_unused (most_keys - length (map v c)))

-- a desk with another number of blocks; with other open lists
abbrev pub with_blocks : Desk → ℕ → Desk
with_blocks d m = record { laid = d.laid; on = d.on; confirmed = d.confirmed; shown = d.shown; draft = d.draft; totals = d.totals; blocks = m }

abbrev pub with_open : Desk → Rows → Desk
with_open d rows =
    record { laid = d.laid; on = d.on; confirmed = d.confirmed; shown = d.shown; draft = record { numbers = d.draft.numbers; kinds = d.draft.kinds; rows = rows }; totals = d.totals; blocks = d.blocks }

module _ (t : Sets) (c : Entries) (m : sets_meet c ≡ true) (e : t ≡ store_sets c) where
  packed_shown : map packed t.shown ≡ t.shown
  unfolding store_sets shown_in
  packed_shown = subst (λ (u : Sets). map packed u.shown ≡ u.shown) (sym e) (packed_column shown_in (λ x r. packed_maybe x.key x.shown ((entry_rules x).0 r).shown) c ((table_rules c).0 m).entries)

  packed_draft : map packed t.draft ≡ t.draft
  unfolding store_sets draft_in
  packed_draft = subst (λ (u : Sets). map packed u.draft ≡ u.draft) (sym e) (packed_column draft_in (λ x r. packed_maybe x.key x.draft ((entry_rules x).0 r).draft) c ((table_rules c).0 m).entries)

  -- sets laid out are gathered again
  pub laid_desk : (s d : Column) → Laid t.shown s.rows s.numbers s.kinds → Laid t.draft d.rows d.numbers d.kinds → (n : Totals) (m : ℕ)
      → Shelved (desk_of t s d n m) × (sets_of (desk_of t s d n m) ≡ t)
  unfolding sets_of
  laid_desk s d p q n m =
      let a = p.same ∙ packed_shown in
      let b = q.same ∙ packed_draft in (
        record { shown = p.whole; draft = q.whole; shown_laid = unchanged_laid t.shown s.numbers s.kinds s.rows a; draft_laid = unchanged_laid t.draft d.numbers d.kinds d.rows b },
        ap₂ (with_lists t t.on t.confirmed) a b,
      )

-- a packed list has at most 128 places
short_packed : (ls : List IdList) (p : ℕ) → map packed ls ≡ ls → p < length ls → (get_or ls p past).len ≤ most_ids
unfolding packed row_list
short_packed ls p e h =
    let n : (get_or ls p past).len ≡ min (get_or ls p past).len most_ids = ap (λ (l : IdList). l.len) (ap (λ (x : List IdList). get_or x p past) (sym e) ∙ get_d_map packed ls p past past h) in
    omega arith

-- a table laid out
pub laid_out : (t : Table) → Stored t → (d : Desk) → LaidOut t.sets t.totals t.blocks d → Shelved d × (table_in d ≡ t)
unfolding Stored
laid_out t stored d l =
    let w = laid_desk t.sets stored.0.sets (sets_meet_law stored.0 stored.1) (ap (λ (u : Table). u.sets) stored.2) d.shown d.draft l.shown l.draft t.totals t.blocks in (
      subst Shelved (sym l.same) w.0,
      ap table_in l.same ∙ ap (λ (x : Sets). table_of x t.totals t.blocks) w.1,
    )

-- ---- a field of a held key

module _ (d : Desk) (S : Shelved d) (p : ℕ) (hp : p < most_keys) (k : ℕ) (k-is : k ≡ most_ids) (body : List ℕ) (f : Field) (row list : Row)
    (row_is : row ≡ row_of (get_or d.shown.rows.lens p 0) (get_or d.shown.rows.names p 0)) (list_is : list ≡ row_of (get_or d.draft.rows.lens p 0) (get_or d.draft.rows.names p 0))
    (r : Stepped) (sn' sk' dn' dk' : List ℕ)
    (step : RowStep body f row list r
    (take k (drop (p * most_ids) d.shown.numbers)) (take k (drop (p * most_ids) d.shown.kinds)) (take k (drop (p * most_ids) d.draft.numbers)) (take k (drop (p * most_ids) d.draft.kinds)) sn' sk' dn' dk')
    (lsn : length sn' ≡ most_ids) (lsk : length sk' ≡ most_ids) (ldn : length dn' ≡ most_ids) (ldk : length dk' ≡ most_ids) where
  shown_at_law : get_or (lists_of d.shown) p past ≡ row_list (take k (drop (p * most_ids) d.shown.numbers)) (take k (drop (p * most_ids) d.shown.kinds)) row
  shown_at_law = gathered_at d.shown.numbers d.shown.kinds d.shown.rows S.shown p k k-is hp ∙ ap (row_list (take k (drop (p * most_ids) d.shown.numbers)) (take k (drop (p * most_ids) d.shown.kinds))) (sym row_is)

  draft_at : get_or (lists_of d.draft) p past ≡ row_list (take k (drop (p * most_ids) d.draft.numbers)) (take k (drop (p * most_ids) d.draft.kinds)) list
  draft_at = gathered_at d.draft.numbers d.draft.kinds d.draft.rows S.draft p k k-is hp ∙ ap (row_list (take k (drop (p * most_ids) d.draft.numbers)) (take k (drop (p * most_ids) d.draft.kinds))) (sym list_is)

  -- a column with a row exchanged, and all rows with one
  abbrev put' : List ℕ → List ℕ → List ℕ
  put' xs row = take (p * most_ids) xs ++ (row ++ drop k (drop (p * most_ids) xs))

  abbrev rows' : Rows → Row → Rows
  rows' x y = record { lens = set x.lens p y.len; names = set x.names p y.named; changed = set x.changed p true }

  whole' : (xs ys : List ℕ) (x : Rows) → Whole xs ys x → (a b : List ℕ) → length a ≡ most_ids → length b ≡ most_ids → (y : Row) → Whole (put' xs a) (put' ys b) (rows' x y)
  whole' xs ys x w a b la lb y =
      record {
        numbers = splice_long p k k-is hp xs w.numbers a la;
        kinds = splice_long p k k-is hp ys w.kinds b lb;
        lens = length-set x.lens p y.len ∙ w.lens;
        names = length-set x.names p y.named ∙ w.names;
        changed = length-set x.changed p true ∙ w.changed;
      }

  unchanged' : (ls : List IdList) (xs ys : List ℕ) (x : Rows) → Whole xs ys x → Unchanged ls xs ys x → (a b : List ℕ) → length a ≡ most_ids → length b ≡ most_ids → (y : Row)
      → Unchanged ls (put' xs a) (put' ys b) (rows' x y)
  unchanged' ls xs ys x w u a b la lb y =
      unchanged_set ls xs ys (put' xs a) (put' ys b) x (rows' x y) p (row_list a b y) (omega (arith, w.changed)) refl (gathered_set xs ys x w p k k-is hp a b la lb y.len y.named true) u

  abbrev desk' : Rows → Rows → ℕ → Totals → Desk
  desk' s' d' q u =
      record {
        laid = d.laid;
        on = set d.on p (eqb f.la 1);
        confirmed = set d.confirmed p q;
        shown = record { numbers = put' d.shown.numbers sn'; kinds = put' d.shown.kinds sk'; rows = s' };
        draft = record { numbers = put' d.draft.numbers dn'; kinds = put' d.draft.kinds dk'; rows = d' };
        totals = u;
        blocks = d.blocks;
      }

  shown_is : row_list sn' sk' r.shown ≡ shown_then d p r.note
  shown_is = step.showing ∙ ap₂ (λ (x y : IdList). cond (is_showing r.note) x y) (sym draft_at) (sym shown_at_law)

  exchanged_rows : (q : ℕ) → q ≡ confirmed_by r.note (get_or d.confirmed p 0) d.blocks → (u : Totals) → u ≡ exchanged_set d.totals row.len (get_or d.on p false) r.shown.len (eqb f.la 1)
      → Exchanges d p body f (desk' (rows' d.shown.rows r.shown) (rows' d.draft.rows r.draft) q u) r.note
  unfolding sets_of row_list
  exchanged_rows q qe u ue =
      record {
        shelved =
            record {
              shown = whole' d.shown.numbers d.shown.kinds d.shown.rows S.shown sn' sk' lsn lsk r.shown;
              draft = whole' d.draft.numbers d.draft.kinds d.draft.rows S.draft dn' dk' ldn ldk r.draft;
              shown_laid = unchanged' d.laid.shown d.shown.numbers d.shown.kinds d.shown.rows S.shown S.shown_laid sn' sk' lsn lsk r.shown;
              draft_laid = unchanged' d.laid.draft d.draft.numbers d.draft.kinds d.draft.rows S.draft S.draft_laid dn' dk' ldn ldk r.draft;
            };
        draft = row_list dn' dk' r.draft;
        drafted = subst (λ (l : IdList). HeldStep body f l (record { draft = row_list dn' dk' r.draft; shows = is_showing r.note; note = r.note })) (sym draft_at) step.drafted;
        sets =
            let a = gathered_set d.shown.numbers d.shown.kinds d.shown.rows S.shown p k k-is hp sn' sk' lsn lsk r.shown.len r.shown.named true ∙ ap (set (lists_of d.shown) p) shown_is in
            let b = gathered_set d.draft.numbers d.draft.kinds d.draft.rows S.draft p k k-is hp dn' dk' ldn ldk r.draft.len r.draft.named true in
            λ i. with_lists d.laid (set d.on p (eqb f.la 1)) (set d.confirmed p (qe i)) (a i) (b i);
        totals =
            let was = ap (λ (x : IdList). x.len) shown_at_law in
            let is = ap (λ (x : IdList). x.len) shown_is in
            ue ∙ (λ i. exchanged_set d.totals (sym was i) (get_or d.on p false) (is i) (eqb f.la 1));
        blocks = refl;
      }

  pub exchanged_law : (s' d' : Rows) → s' ≡ rows' d.shown.rows r.shown → d' ≡ rows' d.draft.rows r.draft → (q : ℕ) → q ≡ confirmed_by r.note (get_or d.confirmed p 0) d.blocks
      → (u : Totals) → u ≡ exchanged_set d.totals row.len (get_or d.on p false) r.shown.len (eqb f.la 1) → Exchanges d p body f (desk' s' d' q u) r.note
  exchanged_law s' d' se de q qe u ue = subst₂ (λ (x y : Rows). Exchanges d p body f (desk' x y q u) r.note) (sym se) (sym de) (exchanged_rows q qe u ue)

-- ---- a field

module _ (d : Desk) (R : Ready d) where
  -- a held key has one of 32 places
  pub held_place : (p key : ℕ) → (ltb p d.laid.count && eqb (get_or d.laid.keys p 0) key) ≡ true → p < most_keys
  unfolding sets_of
  held_place = place_short (table_in d) R.content R.content_meets R.stored

  -- an open list has at most 128 identifiers
  pub draft_short : (p : ℕ) → p < most_keys → get_or d.draft.rows.lens p 0 ≤ most_ids
  unfolding sets_of row_list
  draft_short p hp =
      let short = short_packed (lists_of d.draft) p (packed_draft (sets_of d) R.content.sets (sets_meet_law R.content R.content_meets) (ap (λ (x : Table). x.sets) R.stored)) (omega (arith, length_gathered d.draft.numbers d.draft.kinds d.draft.rows R.shelved.draft)) in
      let at_place = ap (λ (l : IdList). l.len) (gathered_at d.draft.numbers d.draft.kinds d.draft.rows R.shelved.draft p most_ids refl hp) in
      omega arith

module _ (d : Desk) (body : List ℕ) (f : Field) (key : ℕ) (ke : key ≡ key_in f) (p : ℕ) (p-is : p ≡ place_in (take d.laid.count d.laid.keys) key) where
  pub takes_held : (ltb p d.laid.count && eqb (get_or d.laid.keys p 0) key) ≡ true → (d' : Desk) (note : Note) → Exchanges d p body f d' note → Takes d body f d' note
  unfolding Takes sets_of set_at
  takes_held b d' note E c place next meet stored found reserved rules =
      let w =
      turn_held (table_in d) c meet stored body f place next found reserved key ke p p-is b (record { draft = E.draft; shows = is_showing note; note = note }) E.drafted
      (shown_then d p note) refl _ refl _ refl rules in
      (E.shelved, (λ i. table_of (E.sets i) (E.totals i) (E.blocks i)) ∙ w.0, w.1)

  module _ (b : (ltb p d.laid.count && eqb (get_or d.laid.keys p 0) key) ≡ false) where
    pub takes_new : opens_in f d.laid.count ≡ true → ((i : ℕ) → get_or body i 0 < 256)
        → (d' : Desk) → LaidOut (opened_sets (sets_of d) p key (eqb f.la 1) (unwrap_or (with_field empty_list body f) empty_list)) d.totals d.blocks d' → Takes d body f d' Opened
    unfolding Takes sets_of
    takes_new open' b256 d' l c place next meet stored found reserved rules =
        let t' = opened_sets (sets_of d) p key (eqb f.la 1) (unwrap_or (with_field empty_list body f) empty_list) in
        let w = turn_new (table_in d) c meet stored body f place next found reserved key ke p p-is b open' b256 t' refl rules in
        let after = with_sets c (rule_step linkage c.sets (said c.blocks (meaning body f))).0 in
        let s = laid_desk t' after.sets (sets_meet_law after rules) (ap (λ (x : Table). x.sets) w.0) d'.shown d'.draft l.shown l.draft d.totals d.blocks in
        (subst Shelved (sym l.same) s.0, ap table_in l.same ∙ ap (λ (x : Sets). table_of x d.totals d.blocks) s.1 ∙ w.0, w.1)

    pub takes_same : opens_in f d.laid.count ≡ false → Shelved d → (note : Note) → note ≡ unheld_note f → Takes d body f d note
    unfolding Takes sets_of
    takes_same shut' S note ne c place next meet stored found reserved rules =
        let w = turn_same (table_in d) c meet stored body f place next found reserved key ke p p-is b shut' note ne rules in
        (S, w.0, w.1)

-- ---- what the loops keep: over the fields of a block, and over the blocks

pub record Kept (bytes : List ℕ) (t₀ : Table) (d : Desk) (reply : Reply) (spots : Spots) (from at i : ℕ) : Type 0 where
  pub shelved : Shelved d
  pub going : Going bytes t₀ (table_in d) reply spots from at i

pub record Between (bytes : List ℕ) (t₀ : Table) (d : Desk) (reply : Reply) (at : ℕ) : Type 0 where
  pub spots : Spots
  pub from : ℕ
  pub i : ℕ
  pub passed : spots.count ≤ i
  pub kept : Kept bytes t₀ d reply spots from at i

pub kept_first : (bytes : List ℕ) (t : Table) → Stored t → (d : Desk) → LaidOut t.sets t.totals t.blocks d → (reply : Reply) → reply ≡ no_reply → Between bytes t d reply 0
unfolding Stored no_spots
kept_first bytes t stored d l reply re =
    let w = laid_out t stored d l in
    record {
      spots = no_spots;
      from = 0;
      i = 0;
      passed = omega arith;
      kept =
          record {
            shelved = w.0;
            going = subst (λ (x : Table). Going bytes t x reply no_spots 0 0 0) (sym w.1) (going_first bytes t reply no_spots stored.0 stored.1 stored.2 re refl);
          };
    }

module _ {bytes : List ℕ} {t₀ : Table} {d : Desk} {reply : Reply} {spots : Spots} {from at i : ℕ} (K : Kept bytes t₀ d reply spots from at i) where
  pub kept_ready : Ready d
  kept_ready = record { shelved = K.shelved; content = K.going.now'; content_meets = K.going.now_meets; stored = K.going.stored }

  pub kept_fits : i < spots.count → Fits' bytes reply spots i
  kept_fits = fits_now bytes t₀ (table_in d) reply spots from at i K.going

  pub kept_field : i < spots.count → (body : List ℕ) → body ≡ body_at (take 32 (drop from bytes)) (get_or spots.spots i no_spot) → (f : Field) → f ≡ field_in body (get_or spots.spots i no_spot).place
      → (d' : Desk) (m : Note) → Takes d body f d' m → (reply' : Reply) → reply' ≡ reply_with reply i m → Kept bytes t₀ d' reply' spots from at (i + 1)
  unfolding Takes
  kept_field h body body_is f f-is d' m T reply' re =
      let G = K.going in
      let w = going_facts bytes t₀ (table_in d) reply spots from at i G h body body_is f f-is in
      let r = T G.now' w.place w.next G.now_meets G.stored w.found w.reserved w.rules in
      record {
        shelved = r.0;
        going =
            going_took bytes t₀ (table_in d) reply spots from at i G h body body_is f f-is (table_in d') m r.1 r.2 reply' re;
      }

  pub kept_passed : spots.count ≤ i → (at' : ℕ) → at ≡ at' → Between bytes t₀ d reply at'
  kept_passed h at' e = subst (Between bytes t₀ d reply) e (record { spots = spots; from = from; i = i; passed = h; kept = K })

module _ {bytes : List ℕ} {t₀ : Table} {d : Desk} {reply : Reply} {at : ℕ} (B : Between bytes t₀ d reply at) where
  abbrev G : Going bytes t₀ (table_in d) reply B.spots B.from at B.i
  G = B.kept.going

  pub between_fewer : reply.refused ≤ at
  between_fewer = G.fewer

  -- a block more
  module _ (more : 32 ≤ length bytes - at) (b256 : (n : ℕ) → get_or bytes n 0 < 256) (part : List ℕ) (part-is : part ≡ take 32 (drop at bytes)) (reply' : Reply) (m : ℕ) (me : m ≡ next_block d.blocks) where
    pub kept_taken : (spots' : Spots) → JudgedAs part (verdict part) (Ok spots') → reply' ≡ reply_to reply Done 0
        → Kept bytes t₀ (with_blocks d m) reply' spots' at (at + 32) 0
    unfolding sets_of
    kept_taken spots' judged re =
        record {
          shelved = record { shown = B.kept.shelved.shown; draft = B.kept.shelved.draft; shown_laid = B.kept.shelved.shown_laid; draft_laid = B.kept.shelved.draft_laid };
          going =
              subst (λ (k : ℕ). Going bytes t₀ (table_of (sets_of d) d.totals k) reply' spots' at (at + 32) 0) (sym me)
              (turn_taken bytes t₀ (table_in d) reply B.spots B.from at B.i G B.passed more b256 part part-is reply' spots' judged re);
        }

    pub kept_refused : (r : Refused) → JudgedAs part (verdict part) (Err r) → reply' ≡ reply_to reply (outcome_of r.fault) r.place
        → (rows : Rows) → rows ≡ no_rows → Between bytes t₀ (with_open (with_blocks d m) rows) reply' (at + 32)
    unfolding sets_of no_spots
    kept_refused r judged re rows de =
        let no_lists : gathered d.draft.numbers d.draft.kinds rows ≡ replicate most_keys empty_list = ap (gathered d.draft.numbers d.draft.kinds) de ∙ gathered_none d.draft.numbers d.draft.kinds in
        record {
          spots = no_spots;
          from = at;
          i = 0;
          passed = omega arith;
          kept =
              record {
                shelved =
                    record {
                      shown = B.kept.shelved.shown;
                      draft =
                          subst (Whole d.draft.numbers d.draft.kinds) (sym de)
                          (record { numbers = B.kept.shelved.draft.numbers; kinds = B.kept.shelved.draft.kinds; lens = unfold no_rows in refl; names = unfold no_rows in refl; changed = unfold no_rows in refl });
                      shown_laid = B.kept.shelved.shown_laid;
                      draft_laid = subst (Unchanged d.laid.draft d.draft.numbers d.draft.kinds) (sym de) (unchanged_none d.laid.draft d.draft.numbers d.draft.kinds);
                    };
                going =
                    subst (λ (k : ℕ). Going bytes t₀ (table_of (with_lists d.laid d.on d.confirmed (lists_of d.shown) (gathered d.draft.numbers d.draft.kinds rows)) d.totals k) reply' no_spots at (at + 32) 0) (sym me)
                    (subst (λ (x : List IdList). Going bytes t₀ (table_of (with_lists d.laid d.on d.confirmed (lists_of d.shown) x) d.totals (next_block d.blocks)) reply' no_spots at (at + 32) 0) (sym no_lists)
                    (turn_refused bytes t₀ (table_in d) reply B.spots B.from at B.i G B.passed more b256 part part-is reply' r judged re no_spots refl empty_list refl));
              };
        }

  pub between_at : (at' : ℕ) → at ≡ at' → Between bytes t₀ d reply at'
  between_at at' e = subst (Between bytes t₀ d reply) e B

  -- the end
  pub between_end : length bytes - at < 32 → (s : Sets) → s ≡ sets_of d → (r : Table) → r ≡ table_of s d.totals d.blocks → Runs t₀ bytes (record { reply = reply; table = r })
  between_end b s se r re = going_end bytes t₀ (table_in d) reply B.spots B.from at B.i G B.passed b r (re ∙ ap (λ (x : Sets). table_of x d.totals d.blocks) se)
