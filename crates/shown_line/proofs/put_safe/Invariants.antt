use Rattle.shown_line.proofs.Laws.{Putting}
use Rattle.shown_line.proofs.put_safe.Given as goal

abbrev pub invariant-loop-byte : goal.invariant-loop-byte
invariant-loop-byte l = Putting l.initial.now l.initial.out l.bytes l.now l.out l.byte-index
