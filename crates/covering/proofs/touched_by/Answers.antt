use Rattle.covering.proofs.Laws.{covers}
use Rattle.covering.proofs.touched_by.Goals as goal

pub returns : goal.returns
returns c = search covers
