use Rattle.std.proofs.Common.{◌≡◌, length}
use Rattle.pack.proofs.module.areas_of.Given as goal

abbrev pub invariant-loop-i : goal.invariant-loop-i
invariant-loop-i l = (length l.pool ≡ length l.initial.pool) × (length l.rows ≡ length l.initial.rows)
