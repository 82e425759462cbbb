use Rattle.book_order.proofs.Laws.{sorts}
use Rattle.book_order.proofs.order.sort_numbers.Goals as goal

pub wide-requires : goal.wide-requires
wide-requires c = search sorts

pub returns-then-order-wide : goal.returns-then-order-wide
returns-then-order-wide c = search sorts

pub loop-k-init : goal.loop-k-init
loop-k-init c = search sorts

pub put_in-requires : goal.put_in-requires
put_in-requires c = search sorts

pub loop-k-preserved : goal.loop-k-preserved
loop-k-preserved c = search sorts

pub shape_of-order : goal.shape_of-order
shape_of-order c = search sorts

pub returns : goal.returns
returns c = search sorts
