use Rattle.name_index.proofs.Laws.{Noting}
use Rattle.name_index.proofs.index.note_all.Given as goal

abbrev pub invariant-loop-j : goal.invariant-loop-j
invariant-loop-j l = Noting l.text l.symbols l.initial.index l.index l.n l.j
