use Rattle.content_out.proofs.Laws.{fours}
use Rattle.content_out.proofs.put_four.Goals as goal

pub low-requires : goal.low-requires
low-requires c = search fours

pub low-requires-then-big : goal.low-requires-then-big
low-requires-then-big c = search fours

pub low-requires-then-big-2 : goal.low-requires-then-big-2
low-requires-then-big-2 c = search fours

pub low-requires-then-big-3 : goal.low-requires-then-big-3
low-requires-then-big-3 c = search fours

pub slice_bounds-put_bytes-end : goal.slice_bounds-put_bytes-end
slice_bounds-put_bytes-end c = search fours

pub put_bytes-requires : goal.put_bytes-requires
put_bytes-requires c = search fours

pub shape_of-out-then-big : goal.shape_of-out-then-big
shape_of-out-then-big c = search fours

pub returns-then-big : goal.returns-then-big
returns-then-big c = search fours

pub low-requires-2 : goal.low-requires-2
low-requires-2 c = search fours

pub low-requires-3 : goal.low-requires-3
low-requires-3 c = search fours

pub low-requires-4 : goal.low-requires-4
low-requires-4 c = search fours

pub low-requires-5 : goal.low-requires-5
low-requires-5 c = search fours

pub slice_bounds-put_bytes-end-2 : goal.slice_bounds-put_bytes-end-2
slice_bounds-put_bytes-end-2 c = search fours

pub put_bytes-requires-2 : goal.put_bytes-requires-2
put_bytes-requires-2 c = search fours

pub shape_of-out : goal.shape_of-out
shape_of-out c = search fours

pub returns : goal.returns
returns c = search fours
