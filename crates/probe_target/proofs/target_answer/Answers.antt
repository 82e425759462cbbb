use Rattle.probe_target.proofs.Laws.{probes}
use Rattle.probe_target.proofs.target_answer.Goals as goal

pub returns-in-Ok : goal.returns-in-Ok
returns-in-Ok c = search probes

pub returns-in-Err : goal.returns-in-Err
returns-in-Err c = search probes
