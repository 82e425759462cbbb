use Prim.Native.Nat.{◌-◌}
use lib.ListN.{length}
use Rattle.header.specs.Told.{form_of}
use Rattle.counts_of.proofs.Laws.Walk.{Ends}
use Rattle.counts_of.proofs.walk.group_one_end.Given as goal

abbrev pub invariant-loop-p : goal.invariant-loop-p
invariant-loop-p l = Ends (form_of l.form) l.t l.head l.p

abbrev pub decreases-loop-p : goal.decreases-loop-p
decreases-loop-p l = length l.t - l.p
