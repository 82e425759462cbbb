use Rattle.probe_target.proofs.Laws.{rows}
use Rattle.probe_target.proofs.row_target.Goals as goal

pub overflow_mul-a : goal.overflow_mul-a
overflow_mul-a c = search rows

pub overflow_add-e : goal.overflow_add-e
overflow_add-e c = search rows

pub offset_bounds-modes-i : goal.offset_bounds-modes-i
offset_bounds-modes-i c = search rows

pub bounds-modes-i : goal.bounds-modes-i
bounds-modes-i c = search rows

pub offset_bounds-numbers-i : goal.offset_bounds-numbers-i
offset_bounds-numbers-i c = search rows

pub bounds-numbers-i : goal.bounds-numbers-i
bounds-numbers-i c = search rows

pub offset_bounds-addresses-i : goal.offset_bounds-addresses-i
offset_bounds-addresses-i c = search rows

pub bounds-addresses-i : goal.bounds-addresses-i
bounds-addresses-i c = search rows

pub slice_bounds-target_in-count : goal.slice_bounds-target_in-count
slice_bounds-target_in-count c = search rows

pub slice_bounds-target_in-start : goal.slice_bounds-target_in-start
slice_bounds-target_in-start c = search rows

pub slice_bounds-target_in-end : goal.slice_bounds-target_in-end
slice_bounds-target_in-end c = search rows

pub target_in-answer-requires : goal.target_in-answer-requires
target_in-answer-requires c = search rows

pub returns-in-Ok : goal.returns-in-Ok
returns-in-Ok c = search rows

pub returns-in-Err : goal.returns-in-Err
returns-in-Err c = search rows
