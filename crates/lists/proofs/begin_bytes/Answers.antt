use Rattle.lists.proofs.Laws.Begun.{beginning}
use Rattle.lists.proofs.begin_bytes.Goals as goal

pub loop-p-preserved : goal.loop-p-preserved
loop-p-preserved c = search beginning

pub overflow_add-result-then-v-lt256 : goal.overflow_add-result-then-v-lt256
overflow_add-result-then-v-lt256 c = search beginning

pub returns-then-v-lt256 : goal.returns-then-v-lt256
returns-then-v-lt256 c = search beginning
