use Rattle.staying_rows.proofs.Laws.{keeping}
use Rattle.staying_rows.proofs.rows.keep_one.Goals as goal

pub byte_at-requires : goal.byte_at-requires
byte_at-requires c = search keeping

pub returns-then-byte_at-eq1 : goal.returns-then-byte_at-eq1
returns-then-byte_at-eq1 c = search keeping

pub put_row-requires : goal.put_row-requires
put_row-requires c = search keeping

pub overflow_add-result : goal.overflow_add-result
overflow_add-result c = search keeping

pub shape_of-out : goal.shape_of-out
shape_of-out c = search keeping

pub returns : goal.returns
returns c = search keeping
