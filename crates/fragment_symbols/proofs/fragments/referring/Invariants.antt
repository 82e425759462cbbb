use Rattle.alike.proofs.Looked.{Looking}
use Rattle.kept_symbols.specs.Staying.{refers_to}
use Rattle.fragment_symbols.proofs.fragments.referring.Given as goal

abbrev pub invariant-loop-i : goal.invariant-loop-i
invariant-loop-i l = Looking (refers_to l.fragments l.j) l.n l.i
