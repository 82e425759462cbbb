use Rattle.fit_rows.proofs.Laws.Spans.{apart}
use Rattle.fit_rows.proofs.spans.is_apart.Goals as goal

pub overflow_mul-p : goal.overflow_mul-p
overflow_mul-p c = search apart

pub end_at-e-requires : goal.end_at-e-requires
end_at-e-requires c = search apart

pub overflow_add-p : goal.overflow_add-p
overflow_add-p c = search apart

pub at-requires : goal.at-requires
at-requires c = search apart

pub wide-s-requires : goal.wide-s-requires
wide-s-requires c = search apart

pub overflow_add-p-2 : goal.overflow_add-p-2
overflow_add-p-2 c = search apart

pub at-requires-2 : goal.at-requires-2
at-requires-2 c = search apart

pub overflow_add-k : goal.overflow_add-k
overflow_add-k c = search apart

pub is_clear_of-requires : goal.is_clear_of-requires
is_clear_of-requires c = search apart

pub returns : goal.returns
returns c = search apart
