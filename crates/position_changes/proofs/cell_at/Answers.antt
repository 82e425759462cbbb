use Rattle.position_changes.proofs.Cells.{the_cells}
use Rattle.position_changes.proofs.cell_at.Goals as goal

pub returns-then-values-i : goal.returns-then-values-i
returns-then-values-i c = search the_cells

pub returns : goal.returns
returns c = search the_cells
