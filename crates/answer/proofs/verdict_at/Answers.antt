use Rattle.answer.proofs.Laws.{accepting}
use Rattle.answer.proofs.verdict_at.Goals as goal

pub returns-then-stop-n : goal.returns-then-stop-n
returns-then-stop-n c = search accepting

pub returns : goal.returns
returns c = search accepting
