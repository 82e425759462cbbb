-- The answer of the whole reading, as the paper has it.
-- Assumes nothing.
use Rattle.std.specs.Prelude.{ℕ, ◌≡◌, List, Result, Ok, Err, eqb}
use Rattle.format.specs.Lists.{pick}
use Rattle.format.specs.Records as the
use Rattle.format.specs.Reading as paper
use Rattle.format.specs.Held.{Held}
use Rattle.answer.specs.declared.Counts as code
use Rattle.answer.specs.declared.Verdict.{Verdict}
use Rattle.answer.specs.declared.Verdict.TheVariants.{Finished, Stopped}
use Rattle.answer.specs.declared.Refusal.{Refusal}
use Rattle.answer.specs.declared.Accepted.{Accepted}

-- what a reading answers: a refusal, or the counts and the verdict
abbrev pub Answer : Type 0
Answer = Result Accepted Refusal

abbrev pub refusal : (number place : ℕ) → Answer
refusal n p = Err (record { number = n; place = p })

abbrev pub accepted : code.Counts → Verdict → Answer
accepted c v = Ok (record { counts = c; verdict = v })

abbrev pub told_counts : code.Counts → paper.Counts
told_counts c = record { areas = c.areas; symbols = c.symbols; lines = c.lines; kept = c.kept; positions = c.positions; fixups = c.fixups }

abbrev pub told_verdict : Verdict → the.Verdict
told_verdict Finished = the.finished
told_verdict (Stopped p) = the.stopped p

-- the paper's number and values for each case
abbrev pub told : Answer → paper.Answer
told (Err r) = paper.refusal r.number r.place
told (Ok a) = paper.accepted (told_counts a.counts) (told_verdict a.verdict)

-- what the lent buffers hold
abbrev pub held : (areas symbols values masks fixups : List ℕ) → Held
held areas symbols values masks fixups = record { areas = areas; symbols = symbols; values = values; masks = masks; fixups = fixups }

-- the verdict on a text of n bytes of which those before a place were taken
abbrev pub verdict_at : (n stop : ℕ) → the.Verdict
verdict_at n e = pick (eqb e n) the.finished (the.stopped e)

-- the counts, with the verdict
pub record AcceptedIs (c : code.Counts) (n stop : ℕ) (r : Answer) : Type 0 where
  pub accepts : told r ≡ paper.accepted (told_counts c) (verdict_at n stop)
