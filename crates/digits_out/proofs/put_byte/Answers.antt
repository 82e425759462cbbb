use Rattle.digits_out.proofs.Laws.{byting}
use Rattle.digits_out.proofs.put_byte.Goals as goal

pub put-p-requires : goal.put-p-requires
put-p-requires c = search byting

pub three-requires : goal.three-requires
three-requires c = search byting

pub slice_bounds-put_word-count : goal.slice_bounds-put_word-count
slice_bounds-put_word-count c = search byting

pub slice_bounds-put_word-start : goal.slice_bounds-put_word-start
slice_bounds-put_word-start c = search byting

pub slice_bounds-put_word-end : goal.slice_bounds-put_word-end
slice_bounds-put_word-end c = search byting

pub put_word-requires : goal.put_word-requires
put_word-requires c = search byting

pub shape_of-out : goal.shape_of-out
shape_of-out c = search byting

pub returns : goal.returns
returns c = search byting
