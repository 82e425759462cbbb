use Rattle.fit_rows.proofs.Laws.Spans.{Parting}
use Rattle.fit_rows.proofs.spans.are_apart.Given as goal

abbrev pub invariant-loop-k : goal.invariant-loop-k
invariant-loop-k l = Parting l.areas l.na l.pairs l.n l.k
