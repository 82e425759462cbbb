use Rattle.corrected.proofs.CorrectedLaws.{correcting}
use Rattle.corrected.proofs.corrected.corrected_target.Goals as goal

pub returns-then-is_allowed : goal.returns-then-is_allowed
returns-then-is_allowed c = search correcting

pub returns-else-is_allowed : goal.returns-else-is_allowed
returns-else-is_allowed c = search correcting
