-- `text::line_size` meets its contract: the parts' sizes are their lengths.
use Prim.Native.Nat.{ℕ, ◌+◌, ◌*◌}
use native.Mathlib.Omega.{arith}
use mathlib.Core.Path.{◌≡◌, ap, ◌∙◌}
use lib.ListN.{length}
use Rattle.rules.specs.Collecting.{key_width, most_ids}
use Rattle.out.specs.Text.{decimal}
use Rattle.lists.specs.Stored.{pairs_in}
use Rattle.lists.proofs.PairLaws.{length_pairs_in}
use Rattle.text.specs.Confirmed.{block_text}
use Rattle.text.specs.Lines.{number_text}
use Rattle.text.proofs.Texts.{length_if, length_line}
use borrow.Author.Rules.{rules}
use Rattle.text.proofs.line_size.Goals as goal

pub returns : goal.returns
unfolding number_text block_text
returns c =
    let l = c.args.line in
    let list = c.args.list.now in
    let ns : length list.numbers ≡ most_ids = search rules in
    let ks : length list.kinds ≡ most_ids = search rules in
    let n : c.min-n.result ≡ length (pairs_in list.kinds list.numbers list.len) =
    omega (arith, c.min-n.ensures, length_pairs_in list.kinds list.numbers list.len) in
    let size =
    length_line (number_text l.numbered l.block) l.key l.on list
    c.state_size.ensures.0
    (c.numbered_size.ensures.0 ∙ length_if l.numbered (block_text l.block) (omega arith))
    (c.decimal_size.ensures.0 ∙ ap (λ (k : ℕ). length (decimal k)) n)
    (c.pairs_size.ensures.0 ∙ ap (λ (k : ℕ). k * (2 + 2 * key_width l.key)) n)
    c.mark_size.ensures.0
    c.mark_size-2.ensures.0 in (
      size,
      omega (
        arith,
        c.state_size.ensures.1,
        c.numbered_size.ensures.1,
        c.decimal_size.ensures.1,
        c.pairs_size.ensures.1,
        c.mark_size.ensures.1,
        c.mark_size-2.ensures.1,
      ),
    )
