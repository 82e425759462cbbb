use Rattle.covering.proofs.Laws.{covers}
use Rattle.covering.proofs.covers.Goals as goal

pub overflow_add-result : goal.overflow_add-result
overflow_add-result c = search covers
