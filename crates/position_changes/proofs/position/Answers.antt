use Rattle.position_changes.proofs.Cells.{places}
use Rattle.position_changes.proofs.position.Goals as goal

pub returns-in-Some-None : goal.returns-in-Some-None
returns-in-Some-None c = search places

pub returns-in-None-Some : goal.returns-in-None-Some
returns-in-None-Some c = search places

pub returns-in-None-None : goal.returns-in-None-None
returns-in-None-None c = search places
