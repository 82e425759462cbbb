use Rattle.fit_rows.proofs.Laws.Spans.{parting}
use Rattle.fit_rows.proofs.spans.are_apart.Goals as goal

pub loop-k-init : goal.loop-k-init
loop-k-init c = search parting

pub overflow_sub-n : goal.overflow_sub-n
overflow_sub-n c = search parting

pub overflow_sub-n-in-loop-k : goal.overflow_sub-n-in-loop-k
overflow_sub-n-in-loop-k c = search parting

pub is_apart-requires : goal.is_apart-requires
is_apart-requires c = search parting

pub returns-then-not-is_apart : goal.returns-then-not-is_apart
returns-then-not-is_apart c = search parting

pub loop-k-preserved : goal.loop-k-preserved
loop-k-preserved c = search parting

pub returns : goal.returns
returns c = search parting
