-- `columns::set_size` meets its contract: the parts' sizes are their lengths.
use Prim.Native.Nat.{ℕ, ◌+◌, ◌*◌}
use native.Mathlib.Omega.{arith}
use mathlib.Core.Path.{◌≡◌, ap, ◌∙◌}
use mathlib.Core.Bool.{Bool, cond}
use lib.ListN.{length}
use Rattle.rules.specs.Field.{rds, drm}
use Rattle.rules.specs.Collecting.{key_width, most_ids}
use Rattle.lists.specs.Kinds.{is_dead}
use Rattle.lists.specs.Stored.{pairs_in}
use Rattle.lists.proofs.PairLaws.{length_pairs_in}
use Rattle.sets.specs.Shown.{set_in, shown_as}
use Rattle.text.proofs.Texts.{names_rds, names_drm}
use Rattle.columns.specs.Cells.{number_in, row_size}
use Rattle.columns.proofs.Lines.{length-set}
use borrow.Author.Rules.{rules}
use Rattle.columns.proofs.set_size.Goals as goal

pub returns : goal.returns
unfolding shown_as set_in
returns c =
    let w = c.args.rows in
    let l = c.args.list.now in
    let ids = pairs_in l.kinds l.numbers l.len in
    let ns : length l.numbers ≡ most_ids = search rules in
    let ks : length l.kinds ≡ most_ids = search rules in
    let n : c.min.result ≡ length ids = omega (arith, c.min.ensures, length_pairs_in l.kinds l.numbers l.len) in
    let row = row_size w.form.csv w.on (number_in w) 9 in
    let size =
    length-set w.form.csv (number_in w) (shown_as w.key w.on l) _
    (c.codes_size-codes.ensures.0 ∙ ap (λ (k : ℕ). k * row_size w.form.csv w.on (number_in w) (2 + 2 * key_width w.key)) n)
    (c.dead_size.ensures.0 ∙ ap (λ (b : Bool). cond (is_dead rds b ids) row 0) (names_rds l.named))
    (c.dead_size-2.ensures.0 ∙ ap (λ (b : Bool). cond (is_dead drm b ids) row 0) (names_drm l.named))
    c.rule_size.ensures.0 in
    (omega (arith, size), omega (arith, c.codes_size-codes.ensures.1, c.dead_size.ensures.1, c.dead_size-2.ensures.1, c.rule_size.ensures.1))
