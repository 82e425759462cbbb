use Rattle.good_entries.proofs.Laws.{Areas}
use Rattle.good_entries.proofs.entries.areas_good.Given as goal

abbrev pub invariant-loop-i : goal.invariant-loop-i
invariant-loop-i l = Areas l.text l.areas l.n l.i
