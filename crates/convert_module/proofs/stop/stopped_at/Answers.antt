use Rattle.convert_module.proofs.StopLaws.{stops}
use Rattle.convert_module.proofs.stop.stopped_at.Goals as goal

pub stop_halt-halt-requires : goal.stop_halt-halt-requires
stop_halt-halt-requires c = search stops

pub returns : goal.returns
returns c = search stops
