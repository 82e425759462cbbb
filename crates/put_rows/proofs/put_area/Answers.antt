use Rattle.put_rows.proofs.RowLaws.{rowing, seven}
use Rattle.put_rows.proofs.put_area.Goals as goal

pub returns-then-row-ge64 : goal.returns-then-row-ge64
returns-then-row-ge64 c = search rowing

pub overflow_mul-i : goal.overflow_mul-i
overflow_mul-i c = search rowing

pub put_named-requires : goal.put_named-requires
put_named-requires c = search rowing

pub overflow_add-i : goal.overflow_add-i
overflow_add-i c = search rowing

pub is_given-requires : goal.is_given-requires
is_given-requires c = search rowing

pub or_zero-requires : goal.or_zero-requires
or_zero-requires c = search rowing

pub put3-requires : goal.put3-requires
put3-requires c = search rowing

pub overflow_add-i-2 : goal.overflow_add-i-2
overflow_add-i-2 c = search rowing

pub put_u32-requires : goal.put_u32-requires
put_u32-requires c = search rowing

pub shape_of-out : goal.shape_of-out
shape_of-out c = search rowing

pub returns : goal.returns
returns c = search seven fits 60
