use Rattle.std.proofs.Common.{◌-◌}
use Rattle.lists.proofs.Laws.Begun.{Beginning}
use Rattle.lists.proofs.begin_bytes.Given as goal

abbrev pub invariant-loop-p : goal.invariant-loop-p
invariant-loop-p l = Beginning l.radix l.t l.at l.last l.initial.out l.out l.n l.p

abbrev pub decreases-loop-p : goal.decreases-loop-p
decreases-loop-p l = l.last - l.p
