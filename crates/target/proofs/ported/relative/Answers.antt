use Rattle.target.proofs.AnswerLaws.{signing}
use Rattle.target.proofs.ported.relative.Goals as goal

pub returns-then-has : goal.returns-then-has
returns-then-has c = search signing

pub returns-else-has : goal.returns-else-has
returns-else-has c = search signing
