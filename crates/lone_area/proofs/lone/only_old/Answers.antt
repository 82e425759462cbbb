use Rattle.lone_area.proofs.Laws.{lones}
use Rattle.lone_area.proofs.lone.only_old.Goals as goal

pub put-requires : goal.put-requires
put-requires c = search lones

pub shape_of-list : goal.shape_of-list
shape_of-list c = search lones

pub returns : goal.returns
returns c = search lones
