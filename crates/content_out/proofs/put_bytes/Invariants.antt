use Rattle.content_out.proofs.Laws.{Listed}
use Rattle.content_out.proofs.put_bytes.Given as goal

abbrev pub invariant-loop-b : goal.invariant-loop-b
invariant-loop-b l = Listed l.bytes l.initial.out l.at l.b-index l.p l.out
