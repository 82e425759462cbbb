use Rattle.area_line.proofs.Laws.{ids}
use Rattle.area_line.proofs.id.Goals as goal

pub returns-in-Some : goal.returns-in-Some
returns-in-Some c = search ids

pub returns-in-None : goal.returns-in-None
returns-in-None c = search ids
