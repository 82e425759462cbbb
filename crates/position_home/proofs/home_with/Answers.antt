use Rattle.position_home.proofs.Laws.{homing}
use Rattle.position_home.proofs.home_with.Goals as goal

pub returns-then-is_id : goal.returns-then-is_id
returns-then-is_id c = search homing

pub loop-i-preserved : goal.loop-i-preserved
loop-i-preserved c = search homing

pub returns : goal.returns
returns c = search homing
