use Rattle.change_rows.proofs.Going.{puts}
use Rattle.change_rows.proofs.row.store.Goals as goal

pub slice_bounds-copy_u32s-end : goal.slice_bounds-copy_u32s-end
slice_bounds-copy_u32s-end c = search puts

pub copy_u32s-requires : goal.copy_u32s-requires
copy_u32s-requires c = search puts

pub returns-then-writing : goal.returns-then-writing
returns-then-writing c = search puts

pub returns-else-writing : goal.returns-else-writing
returns-else-writing c = search puts
