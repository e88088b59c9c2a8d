-- `checking::tell_counts` meets its contract: the counts are short enough for the buffer, and are those of all that was read.
use mathlib.Core.Path.{◌∙◌}
use borrow.Author.Rules.{rules}
use Rattle.report.proofs.Sizes.{counts_short}
use Rattle.input.proofs.CheckLaws.{counts_end, page_front}
use Rattle.input.proofs.checking.tell_counts.Goals as goal

pub write_end-requires : goal.write_end-requires
write_end-requires g c =
    counts_end _ _ c.requires.checking c.requires.to_its_end c.requires.lines_written
    (c.front.ensures ∙ page_front c.over-page.ensures.over c.put_counts.ensures c.size-size.ensures (search rules) (counts_short _ _ _ _))
