use Rattle.laid_rows.proofs.Laws.Fragments.{Laying}
use Rattle.laid_rows.specs.Over.{around}
use Rattle.laid_rows.proofs.fragments.lay_fragments.Given as goal

abbrev pub invariant-loop-i : goal.invariant-loop-i
invariant-loop-i l = Laying l.initial.part l.bs l.rows l.first l.n l.big l.width (around l.areas l.symbols l.filled l.chosen l.outside) l.part l.i
