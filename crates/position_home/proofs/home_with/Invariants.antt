use Rattle.position_home.proofs.Laws.{Homing}
use Rattle.position_home.proofs.home_with.Given as goal

abbrev pub invariant-loop-i : goal.invariant-loop-i
invariant-loop-i l = Homing l.areas l.n l.id l.i
