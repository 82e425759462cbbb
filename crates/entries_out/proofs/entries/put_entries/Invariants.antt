use Rattle.entries_out.proofs.Laws.{Entries}
use Rattle.entries_out.proofs.entries.put_entries.Given as goal

abbrev pub invariant-loop-j : goal.invariant-loop-j
invariant-loop-j l = Entries l.text l.areas l.n l.symbols l.m l.initial.out l.at l.k l.j l.p l.out
