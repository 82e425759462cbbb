use Rattle.one_position.proofs.PairLaws.{telling}
use Rattle.one_position.proofs.pair.pair_tells.Goals as goal

pub line_at-line-requires : goal.line_at-line-requires
line_at-line-requires c = search telling

pub returns-then-line-home : goal.returns-then-line-home
returns-then-line-home c = search telling

pub overflow_add-p : goal.overflow_add-p
overflow_add-p c = search telling

pub at-requires : goal.at-requires
at-requires c = search telling

pub wide-first-requires : goal.wide-first-requires
wide-first-requires c = search telling

pub overflow_add-p-2 : goal.overflow_add-p-2
overflow_add-p-2 c = search telling

pub at-requires-2 : goal.at-requires-2
at-requires-2 c = search telling

pub wide-requires : goal.wide-requires
wide-requires c = search telling

pub overflow_add-end : goal.overflow_add-end
overflow_add-end c = search telling

pub returns-then-content-end : goal.returns-then-content-end
returns-then-content-end c = search telling

pub overflow_add-p-3 : goal.overflow_add-p-3
overflow_add-p-3 c = search telling

pub at-requires-3 : goal.at-requires-3
at-requires-3 c = search telling

pub wide-row-requires : goal.wide-row-requires
wide-row-requires c = search telling

pub overflow_mul-row : goal.overflow_mul-row
overflow_mul-row c = search telling

pub slice_bounds-by_rows-count : goal.slice_bounds-by_rows-count
slice_bounds-by_rows-count c = search telling

pub slice_bounds-by_rows-start : goal.slice_bounds-by_rows-start
slice_bounds-by_rows-start c = search telling

pub slice_bounds-by_rows-end : goal.slice_bounds-by_rows-end
slice_bounds-by_rows-end c = search telling

pub by_rows-requires : goal.by_rows-requires
by_rows-requires c = search telling

pub returns : goal.returns
returns c = search telling
