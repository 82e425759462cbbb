use Rattle.joined_bytes.proofs.Laws.Joined.{stepping}
use Rattle.joined_bytes.proofs.join_step.Goals as goal

pub overflow_add-result-else-big : goal.overflow_add-result-else-big
overflow_add-result-else-big c = search stepping

pub returns-then-big : goal.returns-then-big
returns-then-big c = search stepping

pub returns-else-big : goal.returns-else-big
returns-else-big c = search stepping
