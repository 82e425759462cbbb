use Rattle.grouped.proofs.Laws.{Grouping}
use Rattle.grouped.proofs.area_rows.Given as goal

abbrev pub invariant-loop-i : goal.invariant-loop-i
invariant-loop-i l = Grouping l.rows l.k l.id l.p l.initial.out l.out l.q l.i
