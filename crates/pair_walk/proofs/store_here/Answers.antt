use Rattle.pair_walk.proofs.Laws.{walking}
use Rattle.pair_walk.proofs.store_here.Goals as goal

pub store-n-requires : goal.store-n-requires
store-n-requires c = search walking

pub shape_of-pairs : goal.shape_of-pairs
shape_of-pairs c = search walking

pub shape_of-content : goal.shape_of-content
shape_of-content c = search walking

pub shape_of-fragments : goal.shape_of-fragments
shape_of-fragments c = search walking

pub returns : goal.returns
returns c = search walking
