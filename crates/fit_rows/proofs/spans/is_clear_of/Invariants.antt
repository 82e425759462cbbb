use Rattle.fit_rows.proofs.Laws.Spans.{Clearing}
use Rattle.fit_rows.proofs.spans.is_clear_of.Given as goal

abbrev pub invariant-loop-i : goal.invariant-loop-i
invariant-loop-i l = Clearing l.pairs l.area l.s l.e l.k l.n l.i
