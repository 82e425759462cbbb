use Rattle.pair_due.proofs.Laws.{dues}
use Rattle.pair_due.proofs.pair_due.Goals as goal

pub returns-then-t-p : goal.returns-then-t-p
returns-then-t-p c = search dues

pub line_at-l-requires : goal.line_at-l-requires
line_at-l-requires c = search dues

pub slice_bounds-by_pair-count : goal.slice_bounds-by_pair-count
slice_bounds-by_pair-count c = search dues

pub slice_bounds-by_pair-start : goal.slice_bounds-by_pair-start
slice_bounds-by_pair-start c = search dues

pub slice_bounds-by_pair-end : goal.slice_bounds-by_pair-end
slice_bounds-by_pair-end c = search dues

pub by_pair-requires : goal.by_pair-requires
by_pair-requires c = search dues

pub returns : goal.returns
returns c = search dues
