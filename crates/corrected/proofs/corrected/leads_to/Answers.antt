use Rattle.corrected.proofs.CorrectedLaws.{correcting}
use Rattle.corrected.proofs.corrected.leads_to.Goals as goal

pub returns : goal.returns
returns c = search correcting
