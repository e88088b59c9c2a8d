-- The whole output (document 01, Writing for air). In order: the blocks of pieces one after another; the blocks
-- of a table's sets from a place on; that those of a stored table are what its content shows; the answer.
use Prim.Native.Nat.{ℕ, ◌+◌, ◌-◌, ◌*◌, ◌/◌, ◌%◌, ◌<◌, ◌≤◌, min}
use native.Mathlib.Omega.{arith}
use mathlib.Core.Path.{◌≡◌, refl, sym, ap, ◌∙◌}
use mathlib.Core.Bool.{Bool, true}
use mathlib.Core.List.{List, [], ◌∷◌, ◌++◌, append_assoc}
use lib.ListN.{length, get_or, take}
use lib.Dec.{eqb}
use borrow.Author.Tests.{eqb-true, eqb-false}
use Rattle.std.proofs.Common.{Ok, Err}
use Rattle.out.specs.declared.Unwritten.TheVariants as Unwritten
use Rattle.rules.specs.Field.{Pair}
use Rattle.rules.specs.Collecting.{IdSet, Content, meets, most_keys}
use Rattle.pieces.specs.Air.{Piece, cut, dead_link, pieces, fig_bytes, block_of, blocks_of, set_blocks, all_blocks, air}
use Rattle.rules.proofs.Basics.{cases_bool}
use Rattle.pieces.proofs.ReadBack.{blocks_length}
use Rattle.rules.proofs.TableRules.{table_rules, sets_meet_law}
use Rattle.lists.specs.declared.IdList.{IdList}
use Rattle.lists.specs.Stored.{paired, pairs_in, Holds}
use Rattle.lists.proofs.StoredLaws.{holds_facts}
use Rattle.sets.specs.declared.Sets.{Sets}
use Rattle.table.specs.declared.Table.{Table}
use Rattle.table.specs.Stored.{Stored, stored, not_stored}
use Rattle.table.proofs.GivenLaws.{sets_are}
use Rattle.sets.specs.Stored.{store_sets, past}
use Rattle.sets.specs.Shown.{set_in, shown_as, shown_at, sets_from, sets_in}
use Rattle.sets.proofs.ShownLaws.{sets_skip, sets_next, sets_end, sets_stored}
use Rattle.std.specs.Borrow.{MutBor}
use Rattle.out.specs.declared.Page.{Page}
use Rattle.out.specs.Page.{Opens, Writes}
use Rattle.out.specs.Answer.{written_as, Outputs}
use Rattle.out.proofs.Pages.{writes_as}
use Rattle.out.proofs.Answers.{written_short, page_done}

-- ---- blocks

pub blocks_append : (k : ℕ) (on : Bool) (cs ds : List Piece) → blocks_of k on (cs ++ ds) ≡ blocks_of k on cs ++ blocks_of k on ds
unfolding blocks_of
blocks_append k on [] ds = refl
blocks_append k on (c ∷ cs) ds = rw (blocks_append k on cs ds) (sym (append_assoc (block_of (fig_bytes k on c)) (blocks_of k on cs) (blocks_of k on ds)))

pub set_size : (k : ℕ) (on : Bool) (l : IdList) → length (set_blocks (shown_as k on l)) ≡ 32 * length (pieces k (set_in l))
unfolding set_blocks shown_as
set_size k on l = blocks_length k on (pieces k (set_in l))

-- the identifiers' pieces, and the dead links
pub set_made : (k : ℕ) (on : Bool) (l : IdList)
    → blocks_of k on (cut k (set_in l).items)
    ++ blocks_of k on (dead_link 1 (eqb (l.named % 2) 1) (set_in l).items)
    ++ blocks_of k on (dead_link 3 (eqb (l.named / 2) 1) (set_in l).items)
    ≡ set_blocks (shown_as k on l)
unfolding set_blocks shown_as pieces set_in
set_made k on l =
    let ps : List Pair = (set_in l).items in
    let a : List Piece = cut k ps in
    let r : List Piece = dead_link 1 (eqb (l.named % 2) 1) ps in
    let d : List Piece = dead_link 3 (eqb (l.named / 2) 1) ps in
    sym (blocks_append k on (a ++ r) d ∙ ap (λ (bs : List ℕ). bs ++ blocks_of k on d) (blocks_append k on a r))

-- ---- the sets of a table, where `n` is the number of entries

-- a list that is none holds no identifier and no name, and so has no blocks
none_in : (l : IdList) → l.len ≡ 0 → l.named ≡ 0 → set_in l ≡ record { items = []; named = 0 }
unfolding set_in pairs_in
none_in l z u = λ i. record { items = take (z i) (paired l.kinds l.numbers); named = u i }

none_blocks : (k : ℕ) (on : Bool) (l : IdList) → l.len ≡ 0 → l.named ≡ 0 → set_blocks (shown_as k on l) ≡ []
unfolding set_blocks shown_as pieces cut dead_link blocks_of
none_blocks k on l z u = ap (λ (s : IdSet). set_blocks (record { key = k; on = on; set = s })) (none_in l z u)

module _ (t : Sets) (i n : ℕ) where
  pub blocks_next : Holds (get_or t.keys i 0) (get_or t.shown i past) → i < n
      → all_blocks (sets_from t i (n - i)) ≡ set_blocks (shown_at t i) ++ all_blocks (sets_from t (i + 1) (n - (i + 1)))
  unfolding all_blocks
  blocks_next holds h =
      cases_bool (eqb (get_or t.shown i past).len 0)
      (λ e.
      let z = eqb-true _ _ e in
      ap all_blocks (sets_skip t i n h z)
      ∙ ap (λ (bs : List ℕ). bs ++ all_blocks (sets_from t (i + 1) (n - (i + 1)))) (sym (none_blocks _ _ (get_or t.shown i past) z ((holds_facts _ _ holds).unnamed z))))
      (λ e. ap all_blocks (sets_next t i n h (eqb-false _ _ e)))

  pub blocks_end : n ≤ i → all_blocks (sets_from t i (n - i)) ≡ []
  unfolding all_blocks
  blocks_end h = ap all_blocks (sets_end t i n h)

-- from the first place on
pub blocks_all : (t : Sets) (n : ℕ) → all_blocks (sets_from t 0 (n - 0)) ≡ all_blocks (sets_from t 0 n)
blocks_all t n =
    let e : n - 0 ≡ n = omega arith in
    ap (λ (k : ℕ). all_blocks (sets_from t 0 k)) e

-- those of a stored table are what its content shows
pub air_of : (t : Sets) (c : Content) → meets c ≡ true → t ≡ store_sets c.sets → all_blocks (sets_from t 0 t.count) ≡ air c
unfolding sets_in store_sets air
air_of t c m e =
    let k : t.count ≡ min t.count most_keys = omega (arith, ap (λ (x : Sets). x.count) e, ((table_rules c.sets).0 (sets_meet_law c m)).short) in
    ap (λ (n : ℕ). all_blocks (sets_from t 0 n)) k ∙ ap all_blocks (ap sets_in e ∙ sets_stored c.sets (sets_meet_law c m))

-- ---- the answer

-- a table that is none
pub answer_wrong : (t : Table) (old : List ℕ) → (Stored t → ⊥) → Outputs air t old (Err Unwritten.WrongTable) old
unfolding written_as
answer_wrong t old n = not_stored n refl

-- a buffer that is too short, and one that is not
module _ (t : Table) (s : Stored t) (n : ℕ) (count : 32 * n ≡ length (all_blocks (sets_from t.sets 0 t.sets.count))) where
  pub answer_short : (old : List ℕ) → length old < 32 * n → Outputs air t old (Err Unwritten.ShortBuffer) old
  unfolding Stored
  answer_short old h = stored s.0 s.1 s.2 (written_short (air s.0) old (omega (arith, ap length (air_of t.sets s.0 s.1 (sets_are t s.0 s.1 s.2)))))

  pub answer_done : {lent : MutBor (List ℕ)} {p q : Page} {new : List ℕ} {size : ℕ} → 32 * n ≤ length lent.now → Opens lent p
      → Writes p (all_blocks (sets_from t.sets 0 t.sets.count)) q → size ≡ min q.at (length q.buffer.now) → new ≡ q.buffer.now
      → Outputs air t lent.now (Ok size) new
  unfolding Stored
  answer_done h o w size left =
      let e = air_of t.sets s.0 s.1 (sets_are t s.0 s.1 s.2) in
      stored s.0 s.1 s.2 (page_done o (writes_as e w) size left (omega (arith, ap length e)))
