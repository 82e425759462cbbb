use Rattle.grouped.proofs.Laws.{Ordering}
use Rattle.grouped.proofs.areas_rows.Given as goal

abbrev pub invariant-loop-id : goal.invariant-loop-id
invariant-loop-id l = Ordering l.rows l.k l.n l.initial.out l.out l.p l.id
