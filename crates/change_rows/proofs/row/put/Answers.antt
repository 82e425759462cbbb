use Rattle.change_rows.proofs.Going.{puts}
use Rattle.change_rows.proofs.row.put.Goals as goal

pub returns-then-n-ge4294967296 : goal.returns-then-n-ge4294967296
returns-then-n-ge4294967296 c = search puts

pub overflow_mul-n : goal.overflow_mul-n
overflow_mul-n c = search puts

pub store-requires : goal.store-requires
store-requires c = search puts

pub overflow_add-result : goal.overflow_add-result
overflow_add-result c = search puts

pub shape_of-list : goal.shape_of-list
shape_of-list c = search puts

pub returns : goal.returns
returns c = search puts
