use Rattle.coverage.proofs.RowLaws.{Rowing}
use Rattle.coverage.proofs.rows.mark_rows.Given as goal

abbrev pub invariant-loop-k : goal.invariant-loop-k
invariant-loop-k l = Rowing l.areas l.n l.pairs l.content l.fragments l.many l.big l.width l.initial.map l.map l.k
