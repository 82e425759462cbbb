use Rattle.std.proofs.Common.{◌-◌, length}
use Rattle.replay_lines.proofs.Laws.{Going}
use Rattle.replay_lines.proofs.cases.replay.Given as goal

abbrev pub invariant-loop-p : goal.invariant-loop-p
invariant-loop-p l = Going l.t l.p l.cases l.differ

abbrev pub decreases-loop-p : goal.decreases-loop-p
decreases-loop-p l = length l.t - l.p
