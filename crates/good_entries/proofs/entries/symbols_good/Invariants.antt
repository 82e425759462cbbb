use Rattle.good_entries.proofs.Laws.{Symbols}
use Rattle.good_entries.proofs.entries.symbols_good.Given as goal

abbrev pub invariant-loop-j : goal.invariant-loop-j
invariant-loop-j l = Symbols l.text l.areas l.symbols l.n l.k l.j
