use Rattle.next_areas.proofs.Laws.{Nexting}
use Rattle.next_areas.proofs.next_kept.Given as goal

abbrev pub invariant-loop-j : goal.invariant-loop-j
invariant-loop-j l = Nexting l.areas l.i l.n l.j
