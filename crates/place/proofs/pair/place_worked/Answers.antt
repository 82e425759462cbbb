use Rattle.place.proofs.WorkedLaws.{relocating}
use Rattle.place.proofs.pair.place_worked.Goals as goal

pub returns-in_default : goal.returns-in_default
returns-in_default c = search relocating

pub returns-in-Err : goal.returns-in-Err
returns-in-Err c = search relocating

pub returns-in-Ok : goal.returns-in-Ok
returns-in-Ok c = let h = c.requires.ready in search relocating
