-- From an answer about one position to its numbers.
-- Assumes nothing.
use Prim.Native.Nat.{ℕ}
use mathlib.Core.Path.{◌≡◌, refl}
use borrow.Author.Rules.{rules}
use Rattle.position_answer.specs.Answer.{told}
use Rattle.position_answer.specs.Numbers.{explain_numbers}
use Rattle.position_answer.specs.declared.Explained.{Explained}
use Rattle.position_answer.specs.declared.Explained.TheVariants.{Refused, Unwritten, Wrote}

module _ {e : Explained} where
  pub refused-numbers : {n p : ℕ} → e ≡ Refused n p → record { refusal = n; written = 0; place = p; value = 0; mask = 0 } ≡ explain_numbers (told e)
  refused-numbers q = rw q refl

  pub unwritten-numbers : e ≡ Unwritten → record { refusal = 0; written = 0; place = 0; value = 0; mask = 0 } ≡ explain_numbers (told e)
  unwritten-numbers q = rw q refl

  pub wrote-numbers : {v m p : ℕ} → e ≡ Wrote v m p → record { refusal = 0; written = 1; place = p; value = v; mask = m } ≡ explain_numbers (told e)
  wrote-numbers q = rw q refl

pub ruleset numbers = (rules, refused-numbers, unwritten-numbers, wrote-numbers)
