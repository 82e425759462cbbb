use Rattle.kinds.proofs.Laws.{Counting}
use Rattle.kinds.proofs.count.Given as goal

abbrev pub invariant-loop-i : goal.invariant-loop-i
invariant-loop-i l = Counting l.masks l.map l.n l.kind l.many l.i
