use Rattle.relocation_out.proofs.Laws.{modes}
use Rattle.relocation_out.proofs.put_mode.Goals as goal

pub overflow_cast-k : goal.overflow_cast-k
overflow_cast-k c = search modes

pub slice_bounds-put_bytes-end : goal.slice_bounds-put_bytes-end
slice_bounds-put_bytes-end c = search modes

pub put_bytes-requires : goal.put_bytes-requires
put_bytes-requires c = search modes

pub shape_of-out-then-k-lt-FIRST_LONG : goal.shape_of-out-then-k-lt-FIRST_LONG
shape_of-out-then-k-lt-FIRST_LONG c = search modes

pub returns-then-k-lt-FIRST_LONG : goal.returns-then-k-lt-FIRST_LONG
returns-then-k-lt-FIRST_LONG c = search modes

pub overflow_add-k : goal.overflow_add-k
overflow_add-k c = search modes

pub overflow_cast-k-2 : goal.overflow_cast-k-2
overflow_cast-k-2 c = search modes

pub overflow_cast-k-3 : goal.overflow_cast-k-3
overflow_cast-k-3 c = search modes

pub slice_bounds-put_bytes-end-2 : goal.slice_bounds-put_bytes-end-2
slice_bounds-put_bytes-end-2 c = search modes

pub put_bytes-requires-2 : goal.put_bytes-requires-2
put_bytes-requires-2 c = search modes

pub shape_of-out : goal.shape_of-out
shape_of-out c = search modes

pub returns : goal.returns
returns c = search modes
