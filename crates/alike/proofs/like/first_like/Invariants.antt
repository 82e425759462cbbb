use Rattle.alike.proofs.Looked.{Looking}
use Rattle.alike.specs.Parts.{same_at}
use Rattle.alike.proofs.like.first_like.Given as goal

abbrev pub invariant-loop-j : goal.invariant-loop-j
invariant-loop-j l = Looking (same_at l.s l.xs l.i l.t l.ys) l.n l.j
