-- `columns::put_sets` meets its contract: the text of the sets from the present entry on is what is left to write.
use Rattle.out.proofs.Pages.{Going}
use Rattle.sets.specs.Shown.{confirmed_sets_in}
use Rattle.columns.specs.Columns.{sets_text}
use Rattle.columns.proofs.Whole.{text_from}
use Rattle.columns.proofs.put_sets.Given as goal

abbrev pub invariant-loop-k : goal.invariant-loop-k
invariant-loop-k l =
    Going l.initial.page (sets_text l.form.csv l.form.numbered (confirmed_sets_in l.sets)) l.page (text_from l.form l.sets l.k l.sets.count)
