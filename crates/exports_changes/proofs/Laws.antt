-- The laws of the exported comparison.
-- Assumes nothing.
use Prim.Native.Nat.{ℕ}
use mathlib.Core.Path.{◌≡◌, ap, ◌∙◌}
use mathlib.Core.List.{List}
use borrow.Author.Rules.{rules}
use Rattle.change_answer.specs.Answer.{Told, told_of}
use Rattle.change_answer.specs.Numbers.{changed_numbers}
use Rattle.change_answer.specs.declared.ChangedNumbers.{ChangedNumbers}
use Rattle.changes_of.specs.Answer.{Changed}
use Rattle.exports_changes.specs.Numbers.{Answers}

-- `gatecobalt_changes`
pub answers-are : (s t list : List ℕ) {a : Told} {after : List ℕ} {r : ChangedNumbers} → Changed s t list a after → r ≡ changed_numbers (told_of a) → Answers s t list r after
answers-are s t list c e = record { says = e ∙ ap changed_numbers c.lists.answer; list-is = c.lists.list }

pub ruleset answers = (rules, answers-are)
