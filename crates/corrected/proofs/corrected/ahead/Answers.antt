use Rattle.corrected.proofs.CorrectedLaws.{correcting}
use Rattle.corrected.proofs.corrected.ahead.Goals as goal

pub returns-then-has : goal.returns-then-has
returns-then-has c = search correcting

pub returns-else-has : goal.returns-else-has
returns-else-has c = search correcting
