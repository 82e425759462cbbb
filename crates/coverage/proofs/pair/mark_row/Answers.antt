use Rattle.coverage.proofs.PairLaws.{rowing}
use Rattle.coverage.proofs.pair.mark_row.Goals as goal

pub line_at-line-requires : goal.line_at-line-requires
line_at-line-requires c = search rowing

pub overflow_add-p : goal.overflow_add-p
overflow_add-p c = search rowing

pub at-requires : goal.at-requires
at-requires c = search rowing

pub wide-first-requires : goal.wide-first-requires
wide-first-requires c = search rowing

pub overflow_add-p-2 : goal.overflow_add-p-2
overflow_add-p-2 c = search rowing

pub at-requires-2 : goal.at-requires-2
at-requires-2 c = search rowing

pub wide-requires : goal.wide-requires
wide-requires c = search rowing

pub overflow_add-end : goal.overflow_add-end
overflow_add-end c = search rowing

pub returns-then-content-end : goal.returns-then-content-end
returns-then-content-end c = search rowing

pub overflow_add-p-3 : goal.overflow_add-p-3
overflow_add-p-3 c = search rowing

pub at-requires-3 : goal.at-requires-3
at-requires-3 c = search rowing

pub wide-row-requires : goal.wide-row-requires
wide-row-requires c = search rowing

pub overflow_mul-row : goal.overflow_mul-row
overflow_mul-row c = search rowing

pub home_at-home-requires : goal.home_at-home-requires
home_at-home-requires c = search rowing

pub slice_bounds-by_rows-count : goal.slice_bounds-by_rows-count
slice_bounds-by_rows-count c = search rowing

pub slice_bounds-by_rows-start : goal.slice_bounds-by_rows-start
slice_bounds-by_rows-start c = search rowing

pub slice_bounds-by_rows-end : goal.slice_bounds-by_rows-end
slice_bounds-by_rows-end c = search rowing

pub by_rows-requires : goal.by_rows-requires
by_rows-requires c = search rowing

pub shape_of-map : goal.shape_of-map
shape_of-map c = search rowing

pub returns : goal.returns
returns c = search rowing
