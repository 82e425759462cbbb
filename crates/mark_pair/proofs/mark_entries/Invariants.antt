use Rattle.mark_pair.proofs.Walking.{Marking}
use Rattle.mark_pair.proofs.mark_entries.Given as goal

abbrev pub invariant-loop-e : goal.invariant-loop-e
invariant-loop-e l = Marking l.site l.wk l.initial.map l.n l.map l.e l.p
