use Rattle.book_write.proofs.Laying.{nth}
use Rattle.book_write.proofs.lay.put_nth_row.Goals as goal

pub wide-k-requires : goal.wide-k-requires
wide-k-requires c = search nth

pub overflow_mul-k : goal.overflow_mul-k
overflow_mul-k c = search nth

pub overflow_add-k : goal.overflow_add-k
overflow_add-k c = search nth

pub at-requires : goal.at-requires
at-requires c = search nth

pub put_entry-requires : goal.put_entry-requires
put_entry-requires c = search nth

pub shape_of-out : goal.shape_of-out
shape_of-out c = search nth

pub returns : goal.returns
returns c = search nth
