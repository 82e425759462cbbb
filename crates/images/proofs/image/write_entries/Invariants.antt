use Rattle.images.proofs.ImageLaws.{Imaging}
use Rattle.images.proofs.image.write_entries.Given as goal

abbrev pub invariant-loop-e : goal.invariant-loop-e
invariant-loop-e l = Imaging l.site l.wv l.wm l.wk l.count l.initial.values l.initial.masks l.n l.values l.masks l.k l.e l.p
