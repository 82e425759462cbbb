use Rattle.book.proofs.Twice.{Unseen}
use Rattle.book_given.proofs.twice.seen_before.Given as goal

abbrev pub invariant-loop-i : goal.invariant-loop-i
invariant-loop-i l = Unseen l.pool l.rows l.k l.i
