use Prim.Native.Nat.{suc}
use Rattle.header.specs.Told.{more_of}
use Rattle.good_rows.proofs.Laws.{Pairs}
use Rattle.good_rows.proofs.pairs.pairs_good.Given as goal

abbrev pub invariant-loop-i : goal.invariant-loop-i
invariant-loop-i l = Pairs (suc (more_of l.form.width)) l.pairs l.content l.fragments l.n l.i
