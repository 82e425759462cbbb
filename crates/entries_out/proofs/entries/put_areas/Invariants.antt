use Rattle.entries_out.proofs.Laws.{Areas}
use Rattle.entries_out.proofs.entries.put_areas.Given as goal

abbrev pub invariant-loop-i : goal.invariant-loop-i
invariant-loop-i l = Areas l.text l.areas l.start l.end l.initial.out l.at l.i l.p l.out
