-- `sheet::load_sheet` meets its contract: the table of the sheet, or outcome 10 and the empty table.
use Rattle.sheet.proofs.Loads.{loads_done, loads_refused}
use Rattle.sheet.proofs.load_sheet.Goals as goal

pub returns-in-Some : goal.returns-in-Some
returns-in-Some c = loads_done _ (λ i. (c.type_inv.bytes i).fits) _ c.in-Some.ensures

pub returns-in-None : goal.returns-in-None
returns-in-None c = loads_refused _ (λ i. (c.type_inv.bytes i).fits) _ c.in-None.ensures c.empty.ensures
