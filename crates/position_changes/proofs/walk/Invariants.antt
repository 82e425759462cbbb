use Rattle.position_changes.proofs.Cells.{PositionsGo}
use Rattle.position_changes.proofs.walk.Given as goal

abbrev pub invariant-loop-i : goal.invariant-loop-i
invariant-loop-i l = PositionsGo l.v l.m l.w l.k l.id l.writing l.initial.list l.n l.end l.list l.count l.i
