use Rattle.kept_symbols.proofs.Laws.Marks.{counting}
use Rattle.kept_symbols.proofs.marks.staying.Goals as goal

pub loop-j-init : goal.loop-j-init
loop-j-init c = search counting

pub overflow_sub-result : goal.overflow_sub-result
overflow_sub-result c = search counting

pub overflow_add-result : goal.overflow_add-result
overflow_add-result c = search counting

pub returns-then-flags-j : goal.returns-then-flags-j
returns-then-flags-j c = search counting

pub one_staying-k-requires : goal.one_staying-k-requires
one_staying-k-requires c = search counting

pub overflow_add-k : goal.overflow_add-k
overflow_add-k c = search counting

pub loop-j-preserved : goal.loop-j-preserved
loop-j-preserved c = search counting

pub returns : goal.returns
returns c = search counting
