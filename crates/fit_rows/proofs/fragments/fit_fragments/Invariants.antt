use Rattle.fit_rows.proofs.Laws.Fragments.{Fitting}
use Rattle.fit_rows.proofs.fragments.fit_fragments.Given as goal

abbrev pub invariant-loop-i : goal.invariant-loop-i
invariant-loop-i l = Fitting l.rows l.k l.n l.width l.i
