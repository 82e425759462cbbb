use Rattle.put_rows.proofs.RowLaws.{putting}
use Rattle.put_rows.proofs.put3.Goals as goal

pub put_u32-requires : goal.put_u32-requires
put_u32-requires c = search putting

pub overflow_add-i : goal.overflow_add-i
overflow_add-i c = search putting

pub put_u32-requires-2 : goal.put_u32-requires-2
put_u32-requires-2 c = search putting

pub overflow_add-i-2 : goal.overflow_add-i-2
overflow_add-i-2 c = search putting

pub put_u32-requires-3 : goal.put_u32-requires-3
put_u32-requires-3 c = search putting

pub shape_of-out : goal.shape_of-out
shape_of-out c = search putting

pub returns : goal.returns
returns c = search putting
