use Rattle.pair_rows.proofs.Laws.{putting}
use Rattle.pair_rows.proofs.put4.Goals as goal

pub put3-requires : goal.put3-requires
put3-requires c = search putting

pub overflow_add-i : goal.overflow_add-i
overflow_add-i c = search putting

pub put_u32-requires : goal.put_u32-requires
put_u32-requires c = search putting

pub shape_of-out : goal.shape_of-out
shape_of-out c = search putting

pub returns : goal.returns
returns c = search putting
