use Rattle.ended.proofs.Laws.{telling}
use Rattle.ended.proofs.beside.Goals as goal

pub accepted-requires : goal.accepted-requires
accepted-requires c = search telling

pub returns-in-Err : goal.returns-in-Err
returns-in-Err c = search telling

pub returns-in-Ok : goal.returns-in-Ok
returns-in-Ok c = search telling
