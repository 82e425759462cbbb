use Rattle.probe_target.proofs.Laws.{rows}
use Rattle.probe_target.proofs.put.Goals as goal

pub offset_bounds-out-i : goal.offset_bounds-out-i
offset_bounds-out-i c = search rows

pub bounds-out-i : goal.bounds-out-i
bounds-out-i c = search rows

pub shape_of-out : goal.shape_of-out
shape_of-out c = search rows

pub returns-then-i-out : goal.returns-then-i-out
returns-then-i-out c = search rows

pub returns-else-i-out : goal.returns-else-i-out
returns-else-i-out c = search rows
