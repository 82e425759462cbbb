use Rattle.laid_rows.proofs.Laws.Pairs.{Going}
use Rattle.laid_rows.specs.Over.{around}
use Rattle.laid_rows.proofs.pairs.lay_pairs.Given as goal

abbrev pub invariant-loop-k : goal.invariant-loop-k
invariant-loop-k l = Going l.big l.width (around l.areas l.symbols l.filled l.chosen l.outside) l.pairs l.content l.rows l.n l.initial.out l.out l.k
