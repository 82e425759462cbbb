use Rattle.book.proofs.Twice.{Different}
use Rattle.book_given.proofs.twice.first_twice.Given as goal

abbrev pub invariant-loop-k : goal.invariant-loop-k
invariant-loop-k l = Different l.pool l.rows l.n l.k
