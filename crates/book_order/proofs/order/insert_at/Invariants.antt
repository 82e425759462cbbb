use Rattle.book_order.proofs.Moving.{Moving}
use Rattle.book_order.proofs.order.insert_at.Given as goal

abbrev pub invariant-loop-j : goal.invariant-loop-j
invariant-loop-j l = Moving l.initial.order l.p l.k l.v l.order l.carry l.j
