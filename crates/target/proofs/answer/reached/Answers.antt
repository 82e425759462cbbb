use Rattle.target.proofs.AnswerLaws.{targets}
use Rattle.target.proofs.answer.reached.Goals as goal

pub returns : goal.returns
returns c = search targets
