use Rattle.std.proofs.Common.{◌≡◌, ◌≤◌, length}
use Rattle.pack.proofs.list.lines.Given as goal

abbrev pub invariant-loop-end : goal.invariant-loop-end
invariant-loop-end g l = (length l.pool ≡ length l.initial.pool) × (length l.rows ≡ length l.initial.rows) × (length l.rest ≤ length l.names)

abbrev pub decreases-loop-end : goal.decreases-loop-end
decreases-loop-end g l = length l.rest
