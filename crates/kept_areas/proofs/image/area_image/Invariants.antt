use Rattle.kept_areas.proofs.Images.{Offsetting}
use Rattle.kept_areas.proofs.image.area_image.Given as goal

abbrev pub invariant-loop-j : goal.invariant-loop-j
invariant-loop-j l = Offsetting l.areas l.image l.n l.i l.start l.j
