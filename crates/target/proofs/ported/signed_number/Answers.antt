use Rattle.target.proofs.AnswerLaws.{signing}
use Rattle.target.proofs.ported.signed_number.Goals as goal
use Rattle.target.proofs.ported.signed_number.Goals.{else-signed-via-then-signed+else-shr64-eq1, else-signed-via-else-signed}

pub returns-then-shr64-eq1 : goal.returns-then-shr64-eq1
returns-then-shr64-eq1 c = search signing

pub returns-else-signed : goal.returns-else-signed
returns-else-signed c = elim c.else-signed.branch [ else-signed-via-then-signed+else-shr64-eq1 w ↦ search signing | else-signed-via-else-signed w ↦ search signing ]
