use Rattle.line_step.proofs.Laws.{stepping}
use Rattle.line_step.proofs.whole.Goals as goal

pub returns-then-used-n : goal.returns-then-used-n
returns-then-used-n c = search stepping

pub returns-else-used-n : goal.returns-else-used-n
returns-else-used-n c = search stepping
