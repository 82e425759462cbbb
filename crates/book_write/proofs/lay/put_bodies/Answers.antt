use Rattle.book_write.proofs.Laying.{bodies}
use Rattle.book_write.proofs.lay.put_bodies.Goals as goal

pub wide-requires : goal.wide-requires
wide-requires c = search bodies

pub overflow_mul-to : goal.overflow_mul-to
overflow_mul-to c = search bodies

pub overflow_add-to : goal.overflow_add-to
overflow_add-to c = search bodies

pub loop-i-init : goal.loop-i-init
loop-i-init c = search bodies

pub put_nth_body-requires : goal.put_nth_body-requires
put_nth_body-requires c = search bodies

pub nth_end-to-requires : goal.nth_end-to-requires
nth_end-to-requires c = search bodies

pub loop-i-preserved : goal.loop-i-preserved
loop-i-preserved c = search bodies

pub shape_of-out : goal.shape_of-out
shape_of-out c = search bodies

pub returns : goal.returns
returns c = search bodies
