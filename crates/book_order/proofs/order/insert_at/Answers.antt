use Rattle.book_order.proofs.Moving.{moves}
use Rattle.book_order.proofs.order.insert_at.Goals as goal

pub loop-j-init : goal.loop-j-init
loop-j-init c = search moves

pub at-next-requires : goal.at-next-requires
at-next-requires c = search moves

pub put_u32-requires : goal.put_u32-requires
put_u32-requires c = search moves

pub loop-j-preserved : goal.loop-j-preserved
loop-j-preserved c = search moves

pub put_u32-requires-2 : goal.put_u32-requires-2
put_u32-requires-2 c = search moves

pub shape_of-order : goal.shape_of-order
shape_of-order c = search moves

pub returns : goal.returns
returns c = search moves
