use Rattle.references.proofs.Laws.{ranking}
use Rattle.references.proofs.rank_of.Goals as goal

pub returns : goal.returns
returns c = search ranking
