use Rattle.work.proofs.WorkLaws.{parts}
use Rattle.work.proofs.apply.Goals as goal

pub returns : goal.returns
returns c = search parts
