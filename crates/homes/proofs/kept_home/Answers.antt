use Rattle.homes.proofs.Laws.{homing}
use Rattle.homes.proofs.kept_home.Goals as goal

pub loop-j-init : goal.loop-j-init
loop-j-init c = search homing

pub loop-j-preserved : goal.loop-j-preserved
loop-j-preserved c = search homing

pub returns : goal.returns
returns c = search homing
