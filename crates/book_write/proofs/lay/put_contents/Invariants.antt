use Rattle.book_write.proofs.Laying.{Contents}
use Rattle.book_write.proofs.lay.put_contents.Given as goal

abbrev pub invariant-loop-i : goal.invariant-loop-i
invariant-loop-i l = Contents l.pool l.rows l.order l.n l.initial.out l.out l.i l.to
