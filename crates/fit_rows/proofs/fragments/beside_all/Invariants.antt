use Rattle.fit_rows.proofs.Laws.Fragments.{Besiding}
use Rattle.fit_rows.proofs.fragments.beside_all.Given as goal

abbrev pub invariant-loop-i : goal.invariant-loop-i
invariant-loop-i l = Besiding l.rows l.mode l.entry l.k l.n l.i
