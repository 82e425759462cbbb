use Rattle.staying_rows.proofs.Laws.{putting}
use Rattle.staying_rows.proofs.rows.put_row.Goals as goal

pub symbol_cell-a-requires : goal.symbol_cell-a-requires
symbol_cell-a-requires c = search putting

pub symbol_cell-b-requires : goal.symbol_cell-b-requires
symbol_cell-b-requires c = search putting

pub symbol_cell-c-requires : goal.symbol_cell-c-requires
symbol_cell-c-requires c = search putting

pub symbol_cell-d-requires : goal.symbol_cell-d-requires
symbol_cell-d-requires c = search putting

pub symbol_cell-e-requires : goal.symbol_cell-e-requires
symbol_cell-e-requires c = search putting

pub overflow_mul-k : goal.overflow_mul-k
overflow_mul-k c = search putting

pub slice_bounds-copy_u32s-end : goal.slice_bounds-copy_u32s-end
slice_bounds-copy_u32s-end c = search putting

pub copy_u32s-requires : goal.copy_u32s-requires
copy_u32s-requires c = search putting

pub shape_of-out : goal.shape_of-out
shape_of-out c = search putting

pub returns : goal.returns
returns c = search putting
