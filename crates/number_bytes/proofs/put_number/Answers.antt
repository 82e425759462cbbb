use Rattle.number_bytes.proofs.Laws.{choosing}
use Rattle.number_bytes.proofs.put_number.Goals as goal

pub wide-p-requires : goal.wide-p-requires
wide-p-requires c = search choosing

pub put_three-requires : goal.put_three-requires
put_three-requires c = search choosing

pub put_two-requires : goal.put_two-requires
put_two-requires c = search choosing

pub shape_of-out-then-three : goal.shape_of-out-then-three
shape_of-out-then-three c = search choosing

pub returns-then-three : goal.returns-then-three
returns-then-three c = search choosing

pub shape_of-out-else-three : goal.shape_of-out-else-three
shape_of-out-else-three c = search choosing

pub returns-else-three : goal.returns-else-three
returns-else-three c = search choosing
