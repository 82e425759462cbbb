use Prim.Native.Nat.{◌-◌}
use lib.ListN.{length}
use Rattle.header.specs.Told.{form_of}
use Rattle.records.proofs.Gates.{OneOn}
use Rattle.records.proofs.group_two.group_two_at.Given as goal

abbrev pub invariant-loop-next : goal.invariant-loop-next
invariant-loop-next l = OneOn (form_of l.form) l.t l.at l.p

abbrev pub decreases-loop-next : goal.decreases-loop-next
decreases-loop-next l = length l.t - l.p
