use Rattle.empty_pair.proofs.Laws.{empties}
use Rattle.empty_pair.proofs.two_lines.Goals as goal

pub overflow_add-p : goal.overflow_add-p
overflow_add-p c = search empties

pub slice_bounds-address_only-end : goal.slice_bounds-address_only-end
slice_bounds-address_only-end c = search empties

pub slice_bounds-area_only-end : goal.slice_bounds-area_only-end
slice_bounds-area_only-end c = search empties

pub returns : goal.returns
returns c = search empties
