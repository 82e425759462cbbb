use Rattle.one_cell.proofs.CellOf.{cell-of}
use Rattle.one_cell.proofs.cell_of.Goals as goal

pub returns-then-not-home_fits : goal.returns-then-not-home_fits
returns-then-not-home_fits c = search cell-of

pub cell_at_site-requires : goal.cell_at_site-requires
cell_at_site-requires c = search cell-of

pub returns-in-Unkept : goal.returns-in-Unkept
returns-in-Unkept c = search cell-of

pub returns-in-Misfit : goal.returns-in-Misfit
returns-in-Misfit c = search cell-of

pub returns-in-At : goal.returns-in-At
returns-in-At c = search cell-of
