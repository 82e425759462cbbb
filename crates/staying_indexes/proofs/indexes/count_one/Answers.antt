use Rattle.staying_indexes.proofs.Laws.{lowering}
use Rattle.staying_indexes.proofs.indexes.count_one.Goals as goal

pub to_symbol-requires : goal.to_symbol-requires
to_symbol-requires c = search lowering

pub shape_of-fragments-then-not-to_symbol : goal.shape_of-fragments-then-not-to_symbol
shape_of-fragments-then-not-to_symbol c = search lowering

pub returns-then-not-to_symbol : goal.returns-then-not-to_symbol
returns-then-not-to_symbol c = search lowering

pub overflow_mul-j : goal.overflow_mul-j
overflow_mul-j c = search lowering

pub overflow_add-j : goal.overflow_add-j
overflow_add-j c = search lowering

pub at-requires : goal.at-requires
at-requires c = search lowering

pub lower-x-requires : goal.lower-x-requires
lower-x-requires c = search lowering

pub put_u32-requires : goal.put_u32-requires
put_u32-requires c = search lowering

pub shape_of-fragments : goal.shape_of-fragments
shape_of-fragments c = search lowering

pub returns : goal.returns
returns c = search lowering
