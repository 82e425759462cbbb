use Rattle.scan.proofs.Laws.Words.{Words}
use Rattle.scan.proofs.words.past_word.Given as goal

abbrev pub invariant-loop-b : goal.invariant-loop-b
invariant-loop-b l = Words l.w l.t l.at l.b-index l.p
