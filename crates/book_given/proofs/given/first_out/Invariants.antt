use Rattle.book_given.proofs.Pool.{Inside}
use Rattle.book_given.proofs.given.first_out.Given as goal

abbrev pub invariant-loop-i : goal.invariant-loop-i
invariant-loop-i l = Inside l.pool l.rows l.n l.i
