use Rattle.halt_of.proofs.Laws.Stop.{entering}
use Rattle.halt_of.proofs.stop.entry_at.Goals as goal

pub line_at-l-requires : goal.line_at-l-requires
line_at-l-requires c = search entering

pub slice_bounds-entry_halt-count : goal.slice_bounds-entry_halt-count
slice_bounds-entry_halt-count c = search entering

pub slice_bounds-entry_halt-start : goal.slice_bounds-entry_halt-start
slice_bounds-entry_halt-start c = search entering

pub slice_bounds-entry_halt-end : goal.slice_bounds-entry_halt-end
slice_bounds-entry_halt-end c = search entering

pub entry_halt-h-requires : goal.entry_halt-h-requires
entry_halt-h-requires c = search entering

pub overflow_add-result : goal.overflow_add-result
overflow_add-result c = search entering

pub returns : goal.returns
returns c = search entering
