use Rattle.h_line.proofs.Laws.{telling}
use Rattle.h_line.proofs.tells.Goals as goal

pub returns-in-Ok : goal.returns-in-Ok
returns-in-Ok c = search telling

pub returns-in-Err : goal.returns-in-Err
returns-in-Err c = search telling
