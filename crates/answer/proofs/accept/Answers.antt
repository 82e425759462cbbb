use Rattle.answer.proofs.Laws.{accepting}
use Rattle.answer.proofs.accept.Goals as goal

pub returns : goal.returns
returns c = search accepting
