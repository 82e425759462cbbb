use Rattle.empty_pair.proofs.Laws.{areas}
use Rattle.empty_pair.proofs.area_only.Goals as goal

pub returns : goal.returns
returns c = search areas
