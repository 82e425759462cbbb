use Rattle.kept_symbols.proofs.Laws.Marks.{Marking}
use Rattle.kept_symbols.proofs.marks.mark.Given as goal

abbrev pub invariant-loop-j : goal.invariant-loop-j
invariant-loop-j l = Marking l.text l.symbols l.name l.initial.flags l.n l.flags l.j
