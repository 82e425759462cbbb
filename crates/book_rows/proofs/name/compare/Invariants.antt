use Rattle.book.proofs.Laws.{Comparing}
use Rattle.book_rows.proofs.name.compare.Given as goal

abbrev pub invariant-loop-i : goal.invariant-loop-i
invariant-loop-i l = Comparing l.a l.b l.i
