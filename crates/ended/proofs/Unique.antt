-- No second answer fits the contract of the ended reading.
-- Assumes nothing.
use Prim.Native.Nat.{ℕ}
use mathlib.Core.Path.{◌≡◌, sym, ap, ◌∙◌}
use mathlib.Core.Bool.{true}
use mathlib.Core.List.{List}
use mathlib.Core.Option.{Option, some}
use Rattle.format.specs.Reading as paper
use Rattle.format.specs.Held.{Held}
use Rattle.laws.proofs.Unique.{no-second-answer-fits}
use Rattle.halt.specs.Halt.{Halt, halt_of}
use Rattle.counts.specs.Counts as the-counts
use Rattle.ended_answer.specs.Answer.{if_accepted, told}
use Rattle.ended_answer.specs.declared.Answer.{Answer}
use Rattle.ended_answer.proofs.Unique.{one_answer}
use Rattle.ended.specs.Answer.{Answers}

-- at most one answer and one content of each buffer meet the contract
pub no-second-answer : (text : List ℕ) (old : Held) (x y : Answer) (n₁ n₂ : Held) → Answers text old x n₁ → Answers text old y n₂ → (x ≡ y) × (n₁ ≡ n₂)
no-second-answer text old x y n₁ n₂ p q =
    let k = no-second-answer-fits true text old (told x) (told y) n₁ n₂ p.reads q.reads in
    let same : (A : Type 0) (o : Option A) → if_accepted (told x) o ≡ if_accepted (told y) o = λ A o. ap (λ (a : paper.Answer). if_accepted a o) k.0 in
    (one_answer x y k.0 (p.halts ∙ same Halt (halt_of text) ∙ sym q.halts) (p.counts ∙ same the-counts.Counted (some (the-counts.told_counts text)) ∙ sym q.counts), k.1)
