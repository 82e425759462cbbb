use Rattle.record_parts.proofs.Laws.{Columning}
use Rattle.record_parts.proofs.columns_at.Given as goal

abbrev pub invariant-loop-i : goal.invariant-loop-i
invariant-loop-i l = Columning l.rows l.p l.n l.k l.initial.ms l.initial.es l.initial.xs l.ms l.es l.xs l.q l.i
