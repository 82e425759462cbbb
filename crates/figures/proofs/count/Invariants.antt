use Rattle.figures.proofs.Laws.{Counting}
use Rattle.figures.proofs.count.Given as goal

abbrev pub invariant-loop-j : goal.invariant-loop-j
invariant-loop-j l = Counting l.fixups l.n l.class l.many l.j
