use Rattle.halt_of.proofs.Laws.Stop.{pairing}
use Rattle.halt_of.proofs.stop.pair_at.Goals as goal

pub line_at-l-requires : goal.line_at-l-requires
line_at-l-requires c = search pairing

pub line_at-k-requires : goal.line_at-k-requires
line_at-k-requires c = search pairing

pub slice_bounds-pair_halt-count : goal.slice_bounds-pair_halt-count
slice_bounds-pair_halt-count c = search pairing

pub slice_bounds-pair_halt-start : goal.slice_bounds-pair_halt-start
slice_bounds-pair_halt-start c = search pairing

pub slice_bounds-pair_halt-end : goal.slice_bounds-pair_halt-end
slice_bounds-pair_halt-end c = search pairing

pub slice_bounds-pair_halt-count-2 : goal.slice_bounds-pair_halt-count-2
slice_bounds-pair_halt-count-2 c = search pairing

pub slice_bounds-pair_halt-start-2 : goal.slice_bounds-pair_halt-start-2
slice_bounds-pair_halt-start-2 c = search pairing

pub slice_bounds-pair_halt-end-2 : goal.slice_bounds-pair_halt-end-2
slice_bounds-pair_halt-end-2 c = search pairing

pub pair_halt-h-requires : goal.pair_halt-h-requires
pair_halt-h-requires c = search pairing

pub overflow_add-result : goal.overflow_add-result
overflow_add-result c = search pairing

pub returns : goal.returns
returns c = search pairing
