use Rattle.book_plan.proofs.Sums.{Summing}
use Rattle.book_plan.proofs.plan.book_length.Given as goal

abbrev pub invariant-loop-i : goal.invariant-loop-i
invariant-loop-i l = Summing l.pool l.rows l.n l.i l.to
