use Rattle.alike.proofs.Looked.{Looking}
use Rattle.kept_symbols.specs.Staying.{other_change}
use Rattle.kept_symbols.proofs.gone.other_change.Given as goal

abbrev pub invariant-loop-i : goal.invariant-loop-i
invariant-loop-i l = Looking (other_change l.list) l.n l.i
