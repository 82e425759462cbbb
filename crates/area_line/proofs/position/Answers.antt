use Rattle.area_line.proofs.Laws.{positions}
use Rattle.area_line.proofs.position.Goals as goal

pub byte_at-value-requires : goal.byte_at-value-requires
byte_at-value-requires c = search positions

pub byte_at-mask-requires : goal.byte_at-mask-requires
byte_at-mask-requires c = search positions

pub overflow_cast-value : goal.overflow_cast-value
overflow_cast-value c = search positions

pub overflow_cast-mask : goal.overflow_cast-mask
overflow_cast-mask c = search positions

pub value_and_mask-requires : goal.value_and_mask-requires
value_and_mask-requires c = search positions

pub slice_bounds-put-end : goal.slice_bounds-put-end
slice_bounds-put-end c = search positions

pub put-requires : goal.put-requires
put-requires c = search positions

pub returns : goal.returns
returns c = search positions
