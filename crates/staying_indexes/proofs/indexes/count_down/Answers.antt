use Rattle.staying_indexes.proofs.Laws.{lowers}
use Rattle.staying_indexes.proofs.indexes.count_down.Goals as goal

pub loop-i-init : goal.loop-i-init
loop-i-init c = search lowers

pub count_one-requires : goal.count_one-requires
count_one-requires c = search lowers

pub loop-i-preserved : goal.loop-i-preserved
loop-i-preserved c = search lowers

pub shape_of-fragments : goal.shape_of-fragments
shape_of-fragments c = search lowers

pub returns : goal.returns
returns c = search lowers
