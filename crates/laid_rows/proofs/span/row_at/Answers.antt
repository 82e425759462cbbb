use Rattle.laid_rows.proofs.Laws.Span.{rowing}
use Rattle.laid_rows.proofs.span.row_at.Goals as goal

pub overflow_mul-p : goal.overflow_mul-p
overflow_mul-p c = search rowing

pub overflow_add-p : goal.overflow_add-p
overflow_add-p c = search rowing

pub at-requires : goal.at-requires
at-requires c = search rowing

pub overflow_add-p-2 : goal.overflow_add-p-2
overflow_add-p-2 c = search rowing

pub at-requires-2 : goal.at-requires-2
at-requires-2 c = search rowing

pub overflow_add-p-3 : goal.overflow_add-p-3
overflow_add-p-3 c = search rowing

pub at-requires-3 : goal.at-requires-3
at-requires-3 c = search rowing

pub overflow_add-p-4 : goal.overflow_add-p-4
overflow_add-p-4 c = search rowing

pub at-requires-4 : goal.at-requires-4
at-requires-4 c = search rowing

pub overflow_add-p-5 : goal.overflow_add-p-5
overflow_add-p-5 c = search rowing

pub at-requires-5 : goal.at-requires-5
at-requires-5 c = search rowing

pub overflow_add-p-6 : goal.overflow_add-p-6
overflow_add-p-6 c = search rowing

pub at-requires-6 : goal.at-requires-6
at-requires-6 c = search rowing

pub returns : goal.returns
returns c = search rowing
