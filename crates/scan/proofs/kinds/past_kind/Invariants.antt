use Rattle.scan.proofs.Laws.Kinds.{Spans}
use Rattle.scan.specs.Kinds.{kind_of}
use Rattle.scan.proofs.kinds.past_kind.Given as goal

abbrev pub invariant-loop-i : goal.invariant-loop-i
invariant-loop-i l = Spans (kind_of l.k) l.t l.at l.i
