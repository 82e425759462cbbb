use Rattle.book.proofs.Laws.{Second}
use Rattle.book_open.proofs.closed.second_pass.Given as goal

abbrev pub invariant-loop-i : goal.invariant-loop-i
invariant-loop-i l = Second l.book l.n l.i l.at
