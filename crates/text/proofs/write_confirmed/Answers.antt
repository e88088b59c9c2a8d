-- `text::write_confirmed` meets its contract: with the numbers the whole is the listing with numbers.
use Rattle.text.proofs.Texts.{listed_numbered}
use Rattle.text.proofs.SetLaws.{outputs_as}
use Rattle.text.proofs.write_confirmed.Goals as goal

pub returns : goal.returns
returns c = outputs_as _ _ _ _ (λ d. listed_numbered d c.args.over) c.write_lines.ensures
