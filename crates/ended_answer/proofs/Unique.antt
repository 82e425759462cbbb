-- An answer of the ended reading is fixed by what is told of it.
-- Assumes nothing.
use Prim.Native.Nat.{ℕ}
use mathlib.Core.Path.{◌≡◌, refl, ap}
use native.Mathlib.Omega.{arith}
use Rattle.format.specs.Reading as paper
use Rattle.halt.specs.Halt.{Halt}
use Rattle.counts_of.specs.Told.{told_counted}
use Rattle.counts_of.proofs.Unique.{one-counted}
use Rattle.answer.specs.Answer.{told_counts}
use Rattle.answer.specs.declared.Counts.{Counts}
use Rattle.ended_answer.specs.Answer.{halt_in, told, told_halt, told_verdict, told_word}
use Rattle.ended_answer.specs.declared.Verdict.{Verdict}
use Rattle.ended_answer.specs.declared.Verdict.TheVariants.{Finished, Stopped}
use Rattle.ended_answer.specs.declared.Answer.{Answer}
use Rattle.ended_answer.specs.declared.Answer.TheVariants.{Refusal, Accepted}

apart : {C : Type 0} → ◌≡◌ {A = ℕ} 0 1 → C
apart z = let y : ⊥ = omega arith in absurd y

same-counts : (a b : Counts) → told_counts a ≡ told_counts b → a ≡ b
same-counts a b e = λ i. record {
  areas = ap (λ (c : paper.Counts). c.areas) e i;
  symbols = ap (λ (c : paper.Counts). c.symbols) e i;
  lines = ap (λ (c : paper.Counts). c.lines) e i;
  kept = ap (λ (c : paper.Counts). c.kept) e i;
  positions = ap (λ (c : paper.Counts). c.positions) e i;
  fixups = ap (λ (c : paper.Counts). c.fixups) e i;
}

-- a verdict is fixed by document 01's and the halt
same-verdict : (a b : Verdict) → told_verdict a ≡ told_verdict b → halt_in a ≡ halt_in b → a ≡ b
same-verdict Finished Finished e f = refl
same-verdict Finished (Stopped p r h) e f = apart (cc)
same-verdict (Stopped p r h) Finished e f = apart (cc)
same-verdict (Stopped p r h) (Stopped q s k) e f =
    let i : p ≡ q = cc in
    let j : ◌≡◌ {A = Halt} (record { reason = r; place = h }) (record { reason = s; place = k }) = cc in
    λ x. Stopped (i x) (j x).reason (j x).place

-- an answer by document 01's, the halt and the word
pub one_answer : (x y : Answer) → told x ≡ told y → told_halt x ≡ told_halt y → told_word x ≡ told_word y → x ≡ y
one_answer (Refusal n p) (Refusal m q) e f g = let i : n ≡ m = cc in let j : p ≡ q = cc in λ k. Refusal (i k) (j k)
one_answer (Refusal n p) (Accepted c v w) e f g = apart (cc)
one_answer (Accepted c v w) (Refusal n p) e f g = apart (cc)
one_answer (Accepted c v w) (Accepted d u z) e f g =
    let i : told_counts c ≡ told_counts d = cc in
    let j : told_verdict v ≡ told_verdict u = cc in
    let l : told_counted w ≡ told_counted z = cc in
    λ k. Accepted (same-counts c d i k) (same-verdict v u j f k) (one-counted w z l k)
