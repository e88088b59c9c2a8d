-- `checking::tell_blocks` meets its contract: the lines of so many blocks are short enough for the buffer, and follow those before.
use native.Mathlib.Nat.{le_trans}
use native.Mathlib.Omega.{arith}
use mathlib.Core.Path.{ap, ◌∙◌}
use borrow.Author.Rules.{rules}
use Rattle.std.proofs.Common.{ℕ, ◌+◌}
use Rattle.report.proofs.Sizes.{lines_short}
use Rattle.input.proofs.CheckLaws.{chunk_follows, refused_fit, page_front}
use Rattle.input.proofs.checking.tell_blocks.Goals as goal

pub put_blocks-refused-requires : goal.put_blocks-refused-requires
put_blocks-refused-requires g c = omega (arith, c.requires.chunk_len_bound)

pub overflow_add-checked : goal.overflow_add-checked
overflow_add-checked g c =
    omega (arith, refused_fit _ _ _ c.requires.checking c.put_blocks-refused.ensures.refused_are, c.requires.size_bound)

pub write_lines-checked-requires : goal.write_lines-checked-requires
write_lines-checked-requires g c =
    chunk_follows _ _ _ c.requires.checking.read c.requires.size_value
    (c.front.ensures
    ∙ page_front c.over-page.ensures.over c.put_blocks-refused.ensures.lines c.size-size.ensures (search rules)
    (le_trans (lines_short _ _ _) (omega (arith, c.requires.chunk_len_bound))))

pub returns-clause-refused_value : goal.returns-clause-refused_value
returns-clause-refused_value g c = ap (λ (k : ℕ). c.args.checked.now.refused + k) c.put_blocks-refused.ensures.refused_are
