use Rattle.halt_of.proofs.Laws.Pair.{pairs}
use Rattle.halt_of.proofs.pair.pair_halt.Goals as goal

pub returns-then-ends-eq0 : goal.returns-then-ends-eq0
returns-then-ends-eq0 c = search pairs

pub overflow_add-result-in-Ok : goal.overflow_add-result-in-Ok
overflow_add-result-in-Ok c = search pairs

pub returns-else-ends-eq0 : goal.returns-else-ends-eq0
returns-else-ends-eq0 c = search pairs

pub returns-in-Err : goal.returns-in-Err
returns-in-Err c = search pairs
