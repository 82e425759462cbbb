use Rattle.header.proofs.Laws.{headed}
use Rattle.header.proofs.is_order.Goals as goal

pub returns-then-b-eq72 : goal.returns-then-b-eq72
returns-then-b-eq72 c = search headed

pub returns-else-b-eq72 : goal.returns-else-b-eq72
returns-else-b-eq72 c = search headed
