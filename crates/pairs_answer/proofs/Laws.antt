-- The laws of the answer about T and R records and of its numbers, and that no two answers are the same on paper.
-- Assumes nothing.
use Prim.Native.Nat.{ℕ}
use mathlib.Core.Path.{◌≡◌, ap}
use native.Mathlib.Omega.{arith}
use borrow.Author.Rules.{rules}
use Rattle.record_rows.specs.ReadPairs as paper
use Rattle.std.specs.Prelude.{Ok, Err}
use Rattle.answer.specs.declared.Refusal.{Refusal}
use Rattle.pair_rows.specs.declared.PairCounts.{PairCounts}
use Rattle.pairs_answer.specs.Told.{PairsAnswer, told, told_counts}
use Rattle.pairs_answer.specs.Numbers.{pairs_numbers}
use Rattle.pairs_answer.specs.declared.PairsNumbers.{PairsNumbers}

-- `pairs_numbers`
module _ {a : PairsAnswer} {r : PairsNumbers} where
  pub pairs-refused : {z : Refusal} → a ≡ Err z → r ≡ record { refusal = z.number; place = z.place; pairs = 0; content = 0; fragments = 0 } → r ≡ pairs_numbers (told a)
  pairs-refused e f = rw e f

  pub pairs-counted : {c : PairCounts} → a ≡ Ok c → r ≡ record { refusal = 0; place = 0; pairs = c.pairs; content = c.content; fragments = c.fragments } → r ≡ pairs_numbers (told a)
  pairs-counted e f = rw e f

pub ruleset numbers = (rules, pairs-refused, pairs-counted)

-- no two answers are the same on paper
same-counts : (a b : PairCounts) → told_counts a ≡ told_counts b → a ≡ b
same-counts a b e = λ i. record {
  pairs = ap (λ (c : paper.PairCounts). c.pairs) e i;
  content = ap (λ (c : paper.PairCounts). c.content) e i;
  fragments = ap (λ (c : paper.PairCounts). c.fragments) e i;
}

pub told-injective : (x y : PairsAnswer) → told x ≡ told y → x ≡ y
told-injective (Err r) (Err s) e = let i : r.number ≡ s.number = cc in let j : r.place ≡ s.place = cc in λ k. Err (record { number = i k; place = j k })
told-injective (Err r) (Ok c) e = absurd (let z : ◌≡◌ {A = ℕ} 0 1 = cc in omega arith)
told-injective (Ok c) (Err r) e = absurd (let z : ◌≡◌ {A = ℕ} 0 1 = cc in omega arith)
told-injective (Ok c) (Ok d) e = let i : told_counts c ≡ told_counts d = cc in ap (λ (x : PairCounts). Ok x) (same-counts c d i)
