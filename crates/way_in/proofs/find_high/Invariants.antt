use Rattle.way_in.proofs.Laws.{Looking}
use Rattle.way_in.proofs.find_high.Given as goal

abbrev pub invariant-loop-i : goal.invariant-loop-i
invariant-loop-i l = Looking l.t l.i
