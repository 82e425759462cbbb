use Rattle.probe_mode.proofs.Laws.{probes}
use Rattle.probe_mode.proofs.classes.probe_size.Goals as goal

pub returns-in-Some : goal.returns-in-Some
returns-in-Some c = search probes

pub returns-in-None : goal.returns-in-None
returns-in-None c = search probes
