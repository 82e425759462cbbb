use Rattle.content_out.proofs.Laws.{threes}
use Rattle.content_out.proofs.put_three.Goals as goal

pub low-requires : goal.low-requires
low-requires c = search threes

pub low-requires-then-big : goal.low-requires-then-big
low-requires-then-big c = search threes

pub low-requires-then-big-2 : goal.low-requires-then-big-2
low-requires-then-big-2 c = search threes

pub slice_bounds-put_bytes-end : goal.slice_bounds-put_bytes-end
slice_bounds-put_bytes-end c = search threes

pub put_bytes-requires : goal.put_bytes-requires
put_bytes-requires c = search threes

pub shape_of-out-then-big : goal.shape_of-out-then-big
shape_of-out-then-big c = search threes

pub returns-then-big : goal.returns-then-big
returns-then-big c = search threes

pub low-requires-2 : goal.low-requires-2
low-requires-2 c = search threes

pub low-requires-3 : goal.low-requires-3
low-requires-3 c = search threes

pub low-requires-4 : goal.low-requires-4
low-requires-4 c = search threes

pub slice_bounds-put_bytes-end-2 : goal.slice_bounds-put_bytes-end-2
slice_bounds-put_bytes-end-2 c = search threes

pub put_bytes-requires-2 : goal.put_bytes-requires-2
put_bytes-requires-2 c = search threes

pub shape_of-out : goal.shape_of-out
shape_of-out c = search threes

pub returns : goal.returns
returns c = search threes
