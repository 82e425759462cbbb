use Rattle.homes.proofs.Laws.{sizing}
use Rattle.homes.proofs.size_at.Goals as goal

pub returns-then-flags-eq1 : goal.returns-then-flags-eq1
returns-then-flags-eq1 c = search sizing

pub returns-else-flags-eq1 : goal.returns-else-flags-eq1
returns-else-flags-eq1 c = search sizing
