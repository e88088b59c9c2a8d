-- `text::put_lines` meets its contract: the lines of the sets from the present entry on are what is left to write.
use Rattle.out.proofs.Pages.{Going}
use Rattle.sets.specs.Shown.{confirmed_sets_in}
use Rattle.text.specs.Lines.{lines_in}
use Rattle.text.proofs.SetLaws.{lines_from}
use Rattle.text.proofs.put_lines.Given as goal

abbrev pub invariant-loop-k : goal.invariant-loop-k
invariant-loop-k l = Going l.initial.page (lines_in l.numbered (confirmed_sets_in l.sets)) l.page (lines_from l.numbered l.sets l.k l.sets.count)
