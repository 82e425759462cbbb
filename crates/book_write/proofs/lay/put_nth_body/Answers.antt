use Rattle.book_write.proofs.Laying.{nth}
use Rattle.book_write.proofs.lay.put_nth_body.Goals as goal

pub wide-k-requires : goal.wide-k-requires
wide-k-requires c = search nth

pub at-requires : goal.at-requires
at-requires c = search nth

pub put_body-requires : goal.put_body-requires
put_body-requires c = search nth

pub shape_of-out : goal.shape_of-out
shape_of-out c = search nth

pub returns : goal.returns
returns c = search nth
