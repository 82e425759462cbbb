use Rattle.fit_rows.proofs.Laws.Fragments.{beside-rows}
use Rattle.fit_rows.proofs.fragments.beside_all.Goals as goal

pub loop-i-init : goal.loop-i-init
loop-i-init c = search beside-rows

pub overflow_add-p : goal.overflow_add-p
overflow_add-p c = search beside-rows

pub overflow_mul-p : goal.overflow_mul-p
overflow_mul-p c = search beside-rows

pub at-requires : goal.at-requires
at-requires c = search beside-rows

pub overflow_add-p-in-loop-i : goal.overflow_add-p-in-loop-i
overflow_add-p-in-loop-i c = search beside-rows

pub at-requires-in-loop-i : goal.at-requires-in-loop-i
at-requires-in-loop-i c = search beside-rows

pub is_beside-requires : goal.is_beside-requires
is_beside-requires c = search beside-rows

pub returns-then-not-is_beside : goal.returns-then-not-is_beside
returns-then-not-is_beside c = search beside-rows

pub loop-i-preserved : goal.loop-i-preserved
loop-i-preserved c = search beside-rows

pub returns : goal.returns
returns c = search beside-rows
