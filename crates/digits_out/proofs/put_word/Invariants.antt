use Rattle.digits_out.proofs.Laws.{Words}
use Rattle.digits_out.proofs.put_word.Given as goal

abbrev pub invariant-loop-b : goal.invariant-loop-b
invariant-loop-b l = Words l.w l.initial.out l.at l.b-index l.p l.out
