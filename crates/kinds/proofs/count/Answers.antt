use Rattle.kinds.proofs.Laws.{counting}
use Rattle.kinds.proofs.count.Goals as goal

pub loop-i-init : goal.loop-i-init
loop-i-init c = search counting

pub one_if-many-requires : goal.one_if-many-requires
one_if-many-requires c = search counting

pub overflow_add-many : goal.overflow_add-many
overflow_add-many c = search counting

pub loop-i-preserved : goal.loop-i-preserved
loop-i-preserved c = search counting

pub returns : goal.returns
returns c = search counting
