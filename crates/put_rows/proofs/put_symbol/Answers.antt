use Rattle.put_rows.proofs.RowLaws.{rowing}
use Rattle.put_rows.proofs.put_symbol.Goals as goal

pub returns-then-row-ge1024 : goal.returns-then-row-ge1024
returns-then-row-ge1024 c = search rowing

pub overflow_mul-i : goal.overflow_mul-i
overflow_mul-i c = search rowing

pub flag_of-requires : goal.flag_of-requires
flag_of-requires c = search rowing

pub put_named-requires : goal.put_named-requires
put_named-requires c = search rowing

pub overflow_add-i : goal.overflow_add-i
overflow_add-i c = search rowing

pub put_u32-requires : goal.put_u32-requires
put_u32-requires c = search rowing

pub overflow_add-i-2 : goal.overflow_add-i-2
overflow_add-i-2 c = search rowing

pub short-requires : goal.short-requires
short-requires c = search rowing

pub put_u32-requires-2 : goal.put_u32-requires-2
put_u32-requires-2 c = search rowing

pub shape_of-out : goal.shape_of-out
shape_of-out c = search rowing

pub returns : goal.returns
returns c = search rowing
