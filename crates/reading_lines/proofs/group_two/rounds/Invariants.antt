use Prim.Native.Nat.{◌-◌}
use lib.ListN.{length}
use Rattle.header.specs.Told.{form_of}
use Rattle.reading_lines.specs.Onward.{Columns}
use Rattle.reading_lines.proofs.GroupTwo.{Rounds}
use Rattle.reading_lines.proofs.group_two.rounds.Given as goal

abbrev pub invariant-loop-going : goal.invariant-loop-going
invariant-loop-going l = (Rounds l.ended (form_of l.form) l.t l.initial.a l.s l.initial.g l.initial.vs l.initial.fs l.initial.rows l.g l.a l.vs l.fs l.rows) × (Columns l.bs l.ms l.es l.xs)

abbrev pub decreases-loop-going : goal.decreases-loop-going
decreases-loop-going l = length l.t - l.g.next
