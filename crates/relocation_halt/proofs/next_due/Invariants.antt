use Rattle.relocation_halt.proofs.Laws.{Turned}
use Rattle.relocation_halt.proofs.next_due.Given as goal

abbrev pub invariant-loop : goal.invariant-loop
invariant-loop l = Turned l.radix l.big l.t l.at l.counter l.p
