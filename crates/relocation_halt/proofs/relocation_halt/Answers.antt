use Rattle.relocation_halt.proofs.Laws.{relocations}
use Rattle.relocation_halt.proofs.relocation_halt.Goals as goal

pub returns-in-Ok : goal.returns-in-Ok
returns-in-Ok c = search relocations

pub returns-in-Err : goal.returns-in-Err
returns-in-Err c = search relocations
