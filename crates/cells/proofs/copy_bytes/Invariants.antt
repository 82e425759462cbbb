use Rattle.cells.proofs.Laws.{Storing}
use Rattle.cells.proofs.copy_bytes.Given as goal

abbrev pub invariant-loop-i : goal.invariant-loop-i
invariant-loop-i l = Storing l.initial.dst l.src l.at l.k l.dst l.i
