use Rattle.images.proofs.CountLaws.{Filling}
use Rattle.images.proofs.count.fill_masks.Given as goal

abbrev pub invariant-loop-i : goal.invariant-loop-i
invariant-loop-i l = Filling l.to l.k l.count l.initial.masks l.masks l.c l.i
