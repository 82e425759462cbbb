use Rattle.good_rows.proofs.Laws.{Fragments}
use Rattle.good_rows.proofs.pairs.fragments_good.Given as goal

abbrev pub invariant-loop-i : goal.invariant-loop-i
invariant-loop-i l = Fragments l.rows l.f l.k l.i
