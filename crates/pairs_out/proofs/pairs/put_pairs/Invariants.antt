use Prim.Native.Nat.{suc}
use Rattle.header.specs.Told.{more_of}
use Rattle.pairs_out.proofs.Laws.{Pairs}
use Rattle.pairs_out.proofs.pairs.put_pairs.Given as goal

abbrev pub invariant-loop-i : goal.invariant-loop-i
invariant-loop-i l = Pairs l.form.big (suc (more_of l.form.width)) l.pairs l.content l.fragments l.n l.initial.out l.at l.i l.p l.out
