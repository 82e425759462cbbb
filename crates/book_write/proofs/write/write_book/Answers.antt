use borrow.Author.Rules.{rules}
use Rattle.book_told.proofs.Laws.{writes, write-refused, write_done, plan-room, plan-small}
use Rattle.book_write.proofs.write.write_book.Goals as goal

pub write_sorted-requires : goal.write_sorted-requires
write_sorted-requires c = (plan-room _ _ _ _ _ c.plan_lent.ensures c.in_ok-length.was, plan-small _ _ _ _ _ c.plan_lent.ensures c.in_ok-length.was)

pub returns-in_err-length : goal.returns-in_err-length
returns-in_err-length c =
    let e = write-refused _ _ _ _ _ c.plan_lent.ensures c.in_err-length.was in
    search (rules, e)

pub shape_of-out : goal.shape_of-out
shape_of-out c = search writes

pub shape_of-order : goal.shape_of-order
shape_of-order c = search writes

pub returns : goal.returns
returns c =
    write_done c.args.pool.now c.args.rows.now c.args.n c.args.out.now c.args.order.now c.plan_lent.ensures c.in_ok-length.was c.write_sorted.ensures.order_after c.write_sorted.ensures.out_after
