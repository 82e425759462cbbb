use Rattle.covering.proofs.Laws.{Seeking}
use Rattle.covering.proofs.entry_of.Given as goal

abbrev pub invariant-loop-e : goal.invariant-loop-e
invariant-loop-e l = Seeking l.width l.ms l.es l.n l.entries l.behind l.e l.left
