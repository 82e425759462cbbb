use Prim.Native.Nat.{min}
use Rattle.staying_indexes.proofs.Laws.{Lowering}
use Rattle.staying_indexes.proofs.indexes.count_down.Given as goal

abbrev pub invariant-loop-i : goal.invariant-loop-i
invariant-loop-i l = Lowering l.flags l.initial.fragments (min l.n l.m) l.fragments l.i
