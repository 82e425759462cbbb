use Rattle.way_in.proofs.Laws.{Below}
use Rattle.way_in.proofs.highest.Given as goal

abbrev pub invariant-loop-b : goal.invariant-loop-b
invariant-loop-b l = Below l.t l.h l.b-index
