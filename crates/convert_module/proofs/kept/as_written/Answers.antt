use Rattle.convert_module.proofs.WriteLaws.{answering}
use Rattle.convert_module.proofs.kept.as_written.Goals as goal

pub returns-in-Err : goal.returns-in-Err
returns-in-Err c = search answering

pub returns-in-Ok : goal.returns-in-Ok
returns-in-Ok c = search answering
