-- The ended reading's whole answer, as the paper has it: document 01's, and beside it the halt of a reading that stopped and the H line's word.
-- Assumes nothing.
use Rattle.std.specs.Prelude.{ℕ}
use Rattle.std.proofs.Math.Option.{Option, none, some}
use Rattle.format.specs.Records as the
use Rattle.format.specs.Reading as paper
use Rattle.halt.specs.Halt.{Halt}
use Rattle.counts.specs.Counts as the-counts
use Rattle.counts_of.specs.Told.{told_counted}
use Rattle.answer.specs.Answer.{told_counts}
use Rattle.ended_answer.specs.declared.Verdict.{Verdict}
use Rattle.ended_answer.specs.declared.Verdict.TheVariants.{Finished, Stopped}
use Rattle.ended_answer.specs.declared.Answer.{Answer}
use Rattle.ended_answer.specs.declared.Answer.TheVariants.{Refusal, Accepted}

-- document 01's verdict
abbrev pub told_verdict : Verdict → the.Verdict
told_verdict Finished = the.finished
told_verdict (Stopped p r h) = the.stopped p

-- document 01's answer
abbrev pub told : Answer → paper.Answer
told (Refusal n p) = paper.refusal n p
told (Accepted c v w) = paper.accepted (told_counts c) (told_verdict v)

-- the halt that a verdict tells
abbrev pub halt_in : Verdict → Option Halt
halt_in Finished = none
halt_in (Stopped p r h) = some (record { reason = r; place = h })

abbrev pub told_halt : Answer → Option Halt
told_halt (Refusal n p) = none
told_halt (Accepted c v w) = halt_in v

-- what is said of the counts
abbrev pub told_word : Answer → Option the-counts.Counted
told_word (Refusal n p) = none
told_word (Accepted c v w) = some (told_counted w)

-- told of a text that is accepted, and of no other
abbrev pub if_accepted : {A : Type 0} → paper.Answer → Option A → Option A
if_accepted (paper.refusal n p) a = none
if_accepted (paper.accepted c v) a = a

-- a verdict that is stopped, with a halt
abbrev pub halted_at : ℕ → Halt → Verdict
halted_at place h = Stopped place h.reason h.place
