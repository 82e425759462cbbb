use Rattle.kept_symbols.proofs.Laws.Marks.{Counting}
use Rattle.kept_symbols.proofs.marks.staying.Given as goal

abbrev pub invariant-loop-j : goal.invariant-loop-j
invariant-loop-j l = Counting l.flags l.n l.k l.j
