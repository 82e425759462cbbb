use Rattle.fit_rows.proofs.Laws.Fragments.{Bodying}
use Rattle.fit_rows.proofs.fragments.fit_bodies.Given as goal

abbrev pub invariant-loop-k : goal.invariant-loop-k
invariant-loop-k l = Bodying l.pairs l.rows l.n l.width l.k
