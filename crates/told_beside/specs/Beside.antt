-- What is told beside a reading's counts and verdict, behind a header line that ends at head.
-- Assumes nothing.
use Rattle.std.specs.Prelude.{ℕ, ◌≡◌, List, ltb}
use Rattle.std.proofs.Math.Option.{some}
use Rattle.format.specs.Header.{Form}
use Rattle.format.specs.Reading as paper
use Rattle.halt.specs.Halt.{Halt, halt_at}
use Rattle.counts.specs.Counts as the-counts
use Rattle.counts_of.specs.Told.{group_one_end}
use Rattle.h_line.specs.Told.{two_of}
use Rattle.answer.specs.Answer as reads
use Rattle.answer.specs.declared.Counts.{Counts}
use Rattle.answer.specs.declared.Verdict as reading
use Rattle.answer.specs.declared.Verdict.TheVariants as reading-verdict
use Rattle.ended_answer.specs.Answer.{halt_in, halted_at, told, told_halt, told_word}
use Rattle.ended_answer.specs.declared.Verdict.{Verdict}
use Rattle.ended_answer.specs.declared.Verdict.TheVariants.{Finished, Stopped}
use Rattle.ended_answer.specs.declared.Answer.{Answer}

-- the halt of the lines at a stop: a pair was taken exactly if the stop lies behind the end of group one
abbrev pub halt_behind : Form → List ℕ → (head place : ℕ) → Halt
halt_behind f text head place = halt_at f (ltb (group_one_end f text head) place) text place

-- a reading's verdict, with the halt of the lines at the stop
abbrev pub judged : Form → List ℕ → ℕ → reading.Verdict → Verdict
judged f text head reading-verdict.Finished = Finished
judged f text head (reading-verdict.Stopped p) = halted_at p (halt_behind f text head p)

abbrev pub accepted_with : Counts → reading.Verdict → paper.Answer
accepted_with c v = paper.accepted (reads.told_counts c) (reads.told_verdict v)

-- the contract: the reading's own answer; the halt of its verdict; and the H line's word on its counts
pub record Tells (f : Form) (text : List ℕ) (head : ℕ) (c : Counts) (v : reading.Verdict) (r : Answer) : Type 0 where
  pub same : told r ≡ accepted_with c v
  pub halts : told_halt r ≡ halt_in (judged f text head v)
  pub counts : told_word r ≡ some (the-counts.compared (the-counts.told_from f text head) (two_of c.areas c.symbols))
