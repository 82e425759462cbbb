use Rattle.book.proofs.Laws.{First}
use Rattle.book_open.proofs.ordered.first_pass.Given as goal

abbrev pub invariant-loop-i : goal.invariant-loop-i
invariant-loop-i l = First l.book l.n l.i
