use Rattle.position_changes.proofs.Cells.{walks}
use Rattle.position_changes.proofs.walk.Goals as goal

pub longer-end-requires : goal.longer-end-requires
longer-end-requires c = search walks

pub loop-i-init : goal.loop-i-init
loop-i-init c = search walks

pub position-count-requires : goal.position-count-requires
position-count-requires c = search walks

pub loop-i-preserved : goal.loop-i-preserved
loop-i-preserved c = search walks

pub shape_of-list : goal.shape_of-list
shape_of-list c = search walks

pub returns : goal.returns
returns c = search walks
