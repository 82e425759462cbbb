use Rattle.alike.proofs.Looked.{Looking}
use Rattle.name_index.specs.Index.{named_at}
use Rattle.name_index.proofs.find.searched.Given as goal

abbrev pub invariant-loop-j : goal.invariant-loop-j
invariant-loop-j l = Looking (named_at l.name l.text l.symbols) l.n l.j
