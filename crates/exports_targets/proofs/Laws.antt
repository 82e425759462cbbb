-- From what the definition says to its numbers.
-- Assumes nothing.
use Prim.Native.Nat.{ℕ}
use mathlib.Core.Path.{◌≡◌, ◌∙◌, ap}
use mathlib.Core.Option.{Option}
use borrow.Author.Rules.{rules}
use Rattle.format.specs.Outcome.{Outcome}
use Rattle.format.specs.Header as the-header
use Rattle.answer_numbers.specs.Numbers.{header_numbers, target_numbers}
use Rattle.answer_numbers.specs.declared.answers.HeaderNumbers.{HeaderNumbers}
use Rattle.answer_numbers.specs.declared.answers.TargetNumbers.{TargetNumbers}

pub header-told : {a o : Option the-header.Head} {r : HeaderNumbers} → r ≡ header_numbers a → a ≡ o → r ≡ header_numbers o
header-told f e = f ∙ ap header_numbers e

pub target_told : {a o : Outcome ℕ} {r : TargetNumbers} → r ≡ target_numbers a → a ≡ o → r ≡ target_numbers o
target_told f e = f ∙ ap target_numbers e

pub ruleset numbers = (rules, header-told, target_told)
