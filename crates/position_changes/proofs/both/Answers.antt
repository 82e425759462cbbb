use Rattle.position_changes.proofs.Cells.{boths}
use Rattle.position_changes.proofs.both.Goals as goal

pub same_cell-requires : goal.same_cell-requires
same_cell-requires c = search boths

pub returns-then-same_cell : goal.returns-then-same_cell
returns-then-same_cell c = search boths

pub add-requires : goal.add-requires
add-requires c = search boths

pub shape_of-list : goal.shape_of-list
shape_of-list c = search boths

pub returns : goal.returns
returns c = search boths
