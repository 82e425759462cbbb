use Rattle.figures.proofs.Laws.{Adding}
use Rattle.figures.proofs.known_in.Given as goal

abbrev pub invariant-loop-j : goal.invariant-loop-j
invariant-loop-j l = Adding l.areas l.k l.bits l.j
