-- The laws of the verdict.
-- Assumes nothing.
use Prim.Native.Nat.{ℕ}
use mathlib.Core.Path.{◌≡◌, ap}
use borrow.Author.Rules.{rules}
use borrow.Author.Tests.{eq-eqb, ne_eqb}
use Rattle.answer.specs.Answer.{AcceptedIs, told_counts, accepted, told_verdict, verdict_at}
use Rattle.answer.specs.declared.Verdict.{Verdict}
use Rattle.format.specs.Reading as paper
use Rattle.answer.specs.declared.Verdict.TheVariants.{Finished, Stopped}
use Rattle.answer.specs.declared.Counts.{Counts}

pub verdict-finished : (n e : ℕ) → e ≡ n → told_verdict Finished ≡ verdict_at n e
verdict-finished n e h = rw (eq-eqb e n h)

pub verdict-stopped : (n e : ℕ) → (e ≡ n → ⊥) → told_verdict (Stopped e) ≡ verdict_at n e
verdict-stopped n e h = rw (ne_eqb e n h)

pub accepts-at : (c : Counts) (n e : ℕ) {v : Verdict} → told_verdict v ≡ verdict_at n e → AcceptedIs c n e (accepted c v)
accepts-at c n e h = record { accepts = ap (paper.accepted (told_counts c)) h }

pub ruleset accepting = (rules, verdict-finished, verdict-stopped, accepts-at)
