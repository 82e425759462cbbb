use Rattle.book_order.proofs.Laws.{puts}
use Rattle.book_order.proofs.order.put_in.Goals as goal

pub find_spot-place-requires : goal.find_spot-place-requires
find_spot-place-requires c = search puts

pub wide-requires : goal.wide-requires
wide-requires c = search puts

pub wide-requires-2 : goal.wide-requires-2
wide-requires-2 c = search puts

pub insert_at-requires : goal.insert_at-requires
insert_at-requires c = search puts

pub shape_of-order : goal.shape_of-order
shape_of-order c = search puts

pub returns : goal.returns
returns c = search puts
