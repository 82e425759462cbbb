use Rattle.homes.proofs.Laws.{Homing}
use Rattle.homes.proofs.kept_home.Given as goal

abbrev pub invariant-loop-j : goal.invariant-loop-j
invariant-loop-j l = Homing l.areas l.n l.i l.k l.s l.j
