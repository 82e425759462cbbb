use Rattle.laid_rows.proofs.Laws.Span.{spanning}
use Rattle.laid_rows.proofs.span.span_by.Goals as goal

pub no_span-requires : goal.no_span-requires
no_span-requires c = search spanning

pub returns-then-home-row : goal.returns-then-home-row
returns-then-home-row c = search spanning

pub no_span-requires-then-home-gt65536 : goal.no_span-requires-then-home-gt65536
no_span-requires-then-home-gt65536 c = search spanning

pub returns-then-home-gt65536 : goal.returns-then-home-gt65536
returns-then-home-gt65536 c = search spanning

pub no_span-requires-then-row-gt256 : goal.no_span-requires-then-row-gt256
no_span-requires-then-row-gt256 c = search spanning

pub returns-then-row-gt256 : goal.returns-then-row-gt256
returns-then-row-gt256 c = search spanning

pub wide-requires : goal.wide-requires
wide-requires c = search spanning

pub wide-requires-2 : goal.wide-requires-2
wide-requires-2 c = search spanning

pub overflow_add-end : goal.overflow_add-end
overflow_add-end c = search spanning

pub no_span-requires-then-room-end : goal.no_span-requires-then-room-end
no_span-requires-then-room-end c = search spanning

pub returns-then-room-end : goal.returns-then-room-end
returns-then-room-end c = search spanning

pub wide-requires-3 : goal.wide-requires-3
wide-requires-3 c = search spanning

pub wide-requires-4 : goal.wide-requires-4
wide-requires-4 c = search spanning

pub wide-requires-5 : goal.wide-requires-5
wide-requires-5 c = search spanning

pub wide-requires-6 : goal.wide-requires-6
wide-requires-6 c = search spanning

pub overflow_add-result : goal.overflow_add-result
overflow_add-result c = search spanning

pub overflow_sub-home : goal.overflow_sub-home
overflow_sub-home c = search spanning

pub wide-requires-7 : goal.wide-requires-7
wide-requires-7 c = search spanning

pub returns : goal.returns
returns c = search spanning
