use Rattle.covering.proofs.Laws.{Keeping}
use Rattle.covering.specs.Covering.{in_content}
use Rattle.covering.proofs.is_kept.Given as goal

abbrev pub invariant-loop-i : goal.invariant-loop-i
invariant-loop-i l = Keeping l.width l.ms l.es l.e l.n (in_content l.width l.entries l.e) l.i l.k
