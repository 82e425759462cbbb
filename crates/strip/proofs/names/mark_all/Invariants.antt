use Prim.Native.Nat.{◌≤◌}
use Rattle.strip.proofs.names.mark_all.Given as goal

abbrev pub invariant-loop-i : goal.invariant-loop-i
invariant-loop-i g l = 1 ≤ l.i
