use Prim.Native.Nat.{◌-◌}
use lib.ListN.{length}
use Rattle.header.specs.Told.{form_of}
use Rattle.reading_lines.specs.Onward.{Columns}
use Rattle.records.proofs.Turns.{Rounds}
use Rattle.records.proofs.walk.rounds.Given as goal

abbrev pub invariant-loop-walked : goal.invariant-loop-walked
invariant-loop-walked l = (Rounds (form_of l.form) l.t l.initial.g l.initial.pairs l.initial.content l.initial.fragments l.g l.pairs l.content l.fragments) × (Columns l.bs l.ms l.es l.xs)

abbrev pub decreases-loop-walked : goal.decreases-loop-walked
decreases-loop-walked l = length l.t - l.g.next
