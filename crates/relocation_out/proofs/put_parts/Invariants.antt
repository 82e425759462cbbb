use Prim.Native.Nat.{◌≤◌}
use Rattle.relocation_out.proofs.Laws.{Parts}
use Rattle.relocation_out.proofs.put_parts.Given as goal

abbrev pub invariant-loop-i : goal.invariant-loop-i
invariant-loop-i l = (Parts l.big l.rows l.f l.initial.out l.at l.i l.p l.out) × (l.i ≤ l.k)
