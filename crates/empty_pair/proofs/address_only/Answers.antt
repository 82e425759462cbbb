use Rattle.empty_pair.proofs.Laws.{addressing}
use Rattle.empty_pair.proofs.address_only.Goals as goal

pub returns : goal.returns
returns c = search addressing
