use Rattle.std.proofs.Common.{◌-◌, ◌≤◌, length}
use Rattle.replay_targets.proofs.replay.Given as goal

abbrev pub invariant-loop-at : goal.invariant-loop-at
invariant-loop-at l = (l.at ≤ length l.text) × (l.answers ≤ l.at) × (l.differ ≤ l.at)

abbrev pub decreases-loop-at : goal.decreases-loop-at
decreases-loop-at l = length l.text - l.at
