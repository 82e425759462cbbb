use Rattle.target.proofs.AnswerLaws.{targets}
use Rattle.target.proofs.answer.target_by.Goals as goal

pub returns-then-is_allowed : goal.returns-then-is_allowed
returns-then-is_allowed c = search targets

pub returns-else-is_allowed : goal.returns-else-is_allowed
returns-else-is_allowed c = search targets
