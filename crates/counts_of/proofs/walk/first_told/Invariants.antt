use Prim.Native.Nat.{◌-◌}
use lib.ListN.{length}
use Rattle.header.specs.Told.{form_of}
use Rattle.counts.proofs.Counts.{Walking}
use Rattle.counts_of.proofs.walk.first_told.Given as goal

abbrev pub invariant-loop-p : goal.invariant-loop-p
invariant-loop-p l = Walking (form_of l.form) l.t l.head l.p

abbrev pub decreases-loop-p : goal.decreases-loop-p
decreases-loop-p l = length l.t - l.p
