use Rattle.tables.proofs.GroupOne.{Rest}
use Prim.Native.Nat.{◌-◌, ◌≤◌}
use mathlib.Core.Path.{◌≡◌}
use lib.ListN.{length}
use Rattle.header.specs.Told.{form_of}
use Rattle.tables.proofs.group.group_over.Given as goal

abbrev pub invariant-loop-entry : goal.invariant-loop-entry
invariant-loop-entry l = Rest l.ended (form_of l.form) l.t l.at l.head l.initial.areas l.initial.symbols l.areas l.symbols l.f × (length l.t ≤ 65536) × (length l.symbols ≡ length l.initial.symbols)

abbrev pub decreases-loop-entry : goal.decreases-loop-entry
decreases-loop-entry l = length l.t - l.f.next
