use Rattle.fixup_changes.proofs.Lacks.{walks}
use Rattle.fixup_changes.proofs.walk.Goals as goal

pub loop-i-init : goal.loop-i-init
loop-i-init c = search walks

pub fixup-turn-requires : goal.fixup-turn-requires
fixup-turn-requires c = search walks

pub loop-i-preserved : goal.loop-i-preserved
loop-i-preserved c = search walks

pub shape_of-list : goal.shape_of-list
shape_of-list c = search walks

pub returns : goal.returns
returns c = search walks
