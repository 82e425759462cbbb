use Prim.Native.Nat.{◌≤◌}
use Rattle.strip.proofs.names.all_free.Given as goal

abbrev pub invariant-loop-j : goal.invariant-loop-j
invariant-loop-j l = l.j ≤ l.n
