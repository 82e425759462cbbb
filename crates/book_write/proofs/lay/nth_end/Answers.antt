use Rattle.book_write.proofs.Laying.{nth}
use Rattle.book_write.proofs.lay.nth_end.Goals as goal

pub wide-k-requires : goal.wide-k-requires
wide-k-requires c = search nth

pub at-requires : goal.at-requires
at-requires c = search nth

pub body_length-requires : goal.body_length-requires
body_length-requires c = search nth

pub overflow_add-result : goal.overflow_add-result
overflow_add-result c = search nth

pub returns : goal.returns
returns c = search nth
