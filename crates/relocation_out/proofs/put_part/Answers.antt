use Rattle.relocation_out.proofs.Laws.{partings}
use Rattle.relocation_out.proofs.put_part.Goals as goal

pub put_mode-p-requires : goal.put_mode-p-requires
put_mode-p-requires c = search partings

pub overflow_cast-entry : goal.overflow_cast-entry
overflow_cast-entry c = search partings

pub slice_bounds-put_bytes-end : goal.slice_bounds-put_bytes-end
slice_bounds-put_bytes-end c = search partings

pub put_bytes-q-requires : goal.put_bytes-q-requires
put_bytes-q-requires c = search partings

pub put_two-requires : goal.put_two-requires
put_two-requires c = search partings

pub shape_of-out : goal.shape_of-out
shape_of-out c = search partings

pub returns : goal.returns
returns c = search partings
