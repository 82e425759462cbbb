use Rattle.one_cell.proofs.CellOf.{at-site}
use Rattle.one_cell.proofs.cell_at_site.Goals as goal

pub returns-in-Some : goal.returns-in-Some
returns-in-Some c = search at-site

pub returns-in-None : goal.returns-in-None
returns-in-None c = search at-site
