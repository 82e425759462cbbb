use Rattle.fixups.proofs.PassLaws.{rowed}
use Rattle.fixups.proofs.pass.answered.Goals as goal

pub returns-in-Err : goal.returns-in-Err
returns-in-Err c = search rowed

pub returns-in-Ok : goal.returns-in-Ok
returns-in-Ok c = search rowed
