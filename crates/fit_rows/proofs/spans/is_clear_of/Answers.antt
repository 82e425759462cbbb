use Rattle.fit_rows.proofs.Laws.Spans.{clear-rows}
use Rattle.fit_rows.proofs.spans.is_clear_of.Goals as goal

pub loop-i-init : goal.loop-i-init
loop-i-init c = search clear-rows

pub overflow_add-k : goal.overflow_add-k
overflow_add-k c = search clear-rows

pub meets-requires : goal.meets-requires
meets-requires c = search clear-rows

pub returns-then-meets : goal.returns-then-meets
returns-then-meets c = search clear-rows

pub loop-i-preserved : goal.loop-i-preserved
loop-i-preserved c = search clear-rows

pub returns : goal.returns
returns c = search clear-rows
