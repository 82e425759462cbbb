use Rattle.one_cell.proofs.CellLaws.{Seeking}
use Rattle.one_cell.proofs.seek.Given as goal

abbrev pub invariant-loop-e : goal.invariant-loop-e
invariant-loop-e l = Seeking l.site l.want l.wv l.wm l.wk l.n l.e l.p
