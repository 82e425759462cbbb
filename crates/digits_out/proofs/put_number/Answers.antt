use Rattle.digits_out.proofs.Laws.{numbering}
use Rattle.digits_out.proofs.put_number.Goals as goal

pub width-k-requires : goal.width-k-requires
width-k-requires c = search numbering

pub overflow_sub-k : goal.overflow_sub-k
overflow_sub-k c = search numbering

pub eight-requires : goal.eight-requires
eight-requires c = search numbering

pub slice_bounds-put_word-count : goal.slice_bounds-put_word-count
slice_bounds-put_word-count c = search numbering

pub slice_bounds-put_word-start : goal.slice_bounds-put_word-start
slice_bounds-put_word-start c = search numbering

pub slice_bounds-put_word-end : goal.slice_bounds-put_word-end
slice_bounds-put_word-end c = search numbering

pub put_word-requires : goal.put_word-requires
put_word-requires c = search numbering

pub shape_of-out : goal.shape_of-out
shape_of-out c = search numbering

pub returns : goal.returns
returns c = search numbering
