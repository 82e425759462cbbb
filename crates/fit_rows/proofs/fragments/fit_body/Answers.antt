use Rattle.fit_rows.proofs.Laws.Fragments.{body}
use Rattle.fit_rows.proofs.fragments.fit_body.Goals as goal

pub overflow_mul-p : goal.overflow_mul-p
overflow_mul-p c = search body

pub overflow_add-p : goal.overflow_add-p
overflow_add-p c = search body

pub at-requires : goal.at-requires
at-requires c = search body

pub wide-requires : goal.wide-requires
wide-requires c = search body

pub overflow_add-p-2 : goal.overflow_add-p-2
overflow_add-p-2 c = search body

pub at-requires-2 : goal.at-requires-2
at-requires-2 c = search body

pub wide-requires-2 : goal.wide-requires-2
wide-requires-2 c = search body

pub fit_fragments-requires : goal.fit_fragments-requires
fit_fragments-requires c = search body

pub returns : goal.returns
returns c = search body
