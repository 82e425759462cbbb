use Rattle.pair_due.proofs.Laws.{by_pair}
use Rattle.pair_due.proofs.by_pair.Goals as goal

pub returns-then-paired : goal.returns-then-paired
returns-then-paired c = search by_pair

pub returns-else-paired : goal.returns-else-paired
returns-else-paired c = search by_pair
