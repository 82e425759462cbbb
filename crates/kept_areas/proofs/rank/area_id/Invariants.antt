use Rattle.laws.proofs.Areas.{Ranking}
use Rattle.kept_areas.proofs.rank.area_id.Given as goal

abbrev pub invariant-loop-j : goal.invariant-loop-j
invariant-loop-j l = Ranking l.areas l.n l.i l.k l.j
