-- One law for each return; and no second answer fits.
-- Assumes nothing.
use Prim.Native.Nat.{ℕ}
use mathlib.Core.Path.{◌≡◌, refl, sym, ap, ◌∙◌}
use mathlib.Core.List.{List}
use mathlib.Core.Option.{some}
use lib.Dec.{ltb}
use borrow.Author.Rules.{rules}
use Rattle.format.specs.Header.{Form}
use Rattle.format.specs.Reading as paper
use Rattle.halt.specs.Halt.{Halt, halt_at}
use Rattle.line_halt.specs.Told as halts
use Rattle.line_halt.specs.declared.Halt as code
use Rattle.counts.specs.Counts.{compared, told_from}
use Rattle.counts_of.specs.Told.{group_one_end, told_counted}
use Rattle.h_line.specs.Told.{two_of}
use Rattle.counts_of.specs.declared.Counted.{Counted}
use Rattle.answer.specs.Answer as reads
use Rattle.answer.specs.declared.Counts.{Counts}
use Rattle.answer.specs.declared.Verdict as reading
use Rattle.answer.specs.declared.Verdict.TheVariants as reading-verdict
use Rattle.ended_answer.specs.Answer.{halt_in, halted_at, told, told_verdict}
use Rattle.ended_answer.specs.declared.Verdict.{Verdict}
use Rattle.ended_answer.specs.declared.Verdict.TheVariants.{Finished, Stopped}
use Rattle.ended_answer.specs.declared.Answer.{Answer}
use Rattle.ended_answer.specs.declared.Answer.TheVariants.{Accepted}
use Rattle.ended_answer.proofs.Unique.{one_answer}
use Rattle.told_beside.specs.Beside.{Tells, halt_behind, judged}

-- `stop_halt`
pub halt-found : (f : Form) (text : List ℕ) (head place : ℕ) {e : ℕ} → e ≡ group_one_end f text head → {h : code.Halt} → halts.told_halt h ≡ halt_at f (ltb e place) text place
    → halts.told_halt h ≡ halt_behind f text head place
halt-found f text head place i k = k ∙ ap (λ (n : ℕ). halt_at f (ltb n place) text place) i

pub ruleset halting = (rules, halt-found)

-- `judge`
module _ (f : Form) (text : List ℕ) (head : ℕ) {v : reading.Verdict} where
  pub judge-finished : v ≡ reading-verdict.Finished → Finished ≡ judged f text head v
  judge-finished g = rw g

  pub judge-stopped : {place : ℕ} → v ≡ reading-verdict.Stopped place → {h : code.Halt} → halts.told_halt h ≡ halt_behind f text head place → Stopped place h.reason h.at ≡ judged f text head v
  judge-stopped {place} g k = rw g (ap (halted_at place) k)

pub ruleset judging = (rules, judge-finished, judge-stopped)

-- judging keeps document 01's verdict
judged-same : (f : Form) (text : List ℕ) (head : ℕ) (v : reading.Verdict) → told_verdict (judged f text head v) ≡ reads.told_verdict v
judged-same f text head reading-verdict.Finished = refl
judged-same f text head (reading-verdict.Stopped place) = refl

-- `accepted`
pub accepted-tells : (f : Form) (text : List ℕ) (head : ℕ) (c : Counts) (v : reading.Verdict) {u : Counted} → told_counted u ≡ compared (told_from f text head) (two_of c.areas c.symbols)
    → {j : Verdict} → j ≡ judged f text head v → Tells f text head c v (Accepted c j u)
accepted-tells f text head c v {u} a {j} b = record {
  same = ap (λ (x : Verdict). told (Accepted c x u)) b ∙ ap (paper.accepted (reads.told_counts c)) (judged-same f text head v);
  halts = ap halt_in b;
  counts = ap some a;
}

pub ruleset accepting = (rules, accepted-tells)

-- at most one answer meets the contract
pub no-second-answer : (f : Form) (text : List ℕ) (head : ℕ) (c : Counts) (v : reading.Verdict) (x y : Answer) → Tells f text head c v x → Tells f text head c v y → x ≡ y
no-second-answer f text head c v x y p q = one_answer x y (p.same ∙ sym q.same) (p.halts ∙ sym q.halts) (p.counts ∙ sym q.counts)
