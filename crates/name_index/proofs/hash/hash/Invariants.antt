use Rattle.name_index.proofs.Laws.{Hashing}
use Rattle.name_index.proofs.hash.hash.Given as goal

abbrev pub invariant-loop-b : goal.invariant-loop-b
invariant-loop-b l = Hashing l.name l.h l.b-index
