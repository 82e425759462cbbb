use Rattle.target.proofs.AnswerLaws.{targets}
use Rattle.target.proofs.answer.target.Goals as goal

pub returns : goal.returns
returns c = search targets
