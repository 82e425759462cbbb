-- The laws of the answer's numbers.
-- Assumes nothing.
use Prim.Native.Nat.{ℕ}
use mathlib.Core.Path.{◌≡◌, ap, ◌∙◌}
use borrow.Author.Rules.{rules}
use Rattle.convert_answer.specs.Converts.{told}
use Rattle.convert_answer.specs.Numbers.{convert_numbers}
use Rattle.convert_answer.specs.declared.Converted.{Converted}
use Rattle.convert_answer.specs.declared.Converted.TheVariants.{Bytes, Refusal, Stopped}
use Rattle.convert_answer.specs.declared.ConvertNumbers.{ConvertNumbers}

-- `convert_numbers`
module _ {a : Converted} {r : ConvertNumbers} where
  pub numbers-refused : {n p : ℕ} → a ≡ Refusal n p → r ≡ record { refusal = n; reason = 0; place = p; halt = 0; bytes = 0 } → r ≡ convert_numbers (told a)
  numbers-refused e f = rw e f

  pub numbers-stopped : {p n h : ℕ} → a ≡ Stopped p n h → {k : ℕ} → k ≡ n → r ≡ record { refusal = 0; reason = k; place = p; halt = h; bytes = 0 } → r ≡ convert_numbers (told a)
  numbers-stopped {p} {n} {h} e {k} g f = f ∙ (ap (λ (x : ℕ). record { refusal = 0; reason = x; place = p; halt = h; bytes = 0 }) g ∙ rw e)

  pub numbers-bytes : {n : ℕ} → a ≡ Bytes n → r ≡ record { refusal = 0; reason = 0; place = 0; halt = 0; bytes = n } → r ≡ convert_numbers (told a)
  numbers-bytes e f = rw e f

pub ruleset numbers = (rules, numbers-refused, numbers-stopped, numbers-bytes)
