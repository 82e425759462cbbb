use Rattle.book_order.proofs.Laws.{Sorting}
use Rattle.book_order.proofs.order.sort_numbers.Given as goal

abbrev pub invariant-loop-k : goal.invariant-loop-k
invariant-loop-k l = Sorting l.pool l.rows l.n l.initial.order l.order l.k
