use Rattle.pair_rows.proofs.Laws.{Columned}
use Rattle.pair_rows.proofs.put_fragments.Given as goal

abbrev pub invariant-loop-i : goal.invariant-loop-i
invariant-loop-i l = Columned l.initial.out l.at l.n l.ms l.es l.xs l.out l.i
