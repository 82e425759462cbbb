use Rattle.book_write.proofs.Laying.{Bodies}
use Rattle.book_write.proofs.lay.put_bodies.Given as goal

abbrev pub invariant-loop-i : goal.invariant-loop-i
invariant-loop-i l = Bodies l.pool l.rows l.order l.n l.initial.out l.out l.i l.to
