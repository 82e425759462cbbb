use Rattle.book_order.proofs.Laws.{Spotting}
use Rattle.book_order.proofs.order.find_spot.Given as goal

abbrev pub invariant-loop-i : goal.invariant-loop-i
invariant-loop-i l = Spotting l.pool l.rows l.order l.k l.i
