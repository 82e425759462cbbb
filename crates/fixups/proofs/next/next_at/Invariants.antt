use Rattle.fixups.proofs.NextLaws.{Seeking}
use Rattle.fixups.proofs.next.next_at.Given as goal

abbrev pub invariant-loop-i : goal.invariant-loop-i
invariant-loop-i l = Seeking l.ms l.es l.c l.e l.r l.i
