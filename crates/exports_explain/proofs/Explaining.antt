-- From an answer about one position to its numbers.
-- Assumes nothing.
use Prim.Native.Nat.{ℕ}
use mathlib.Core.Path.{◌≡◌, ap, ◌∙◌}
use mathlib.Core.Bool.{true}
use mathlib.Core.List.{List}
use borrow.Author.Rules.{rules}
use Rattle.record_rows.specs.ReadPairs.{roomy}
use Rattle.last_writer.specs.LastWriter.{writer_in}
use Rattle.position_answer.specs.Answer.{told}
use Rattle.position_answer.specs.Numbers.{explain_numbers}
use Rattle.position_answer.specs.declared.Explained.{Explained}
use Rattle.position_answer.specs.declared.ExplainNumbers.{ExplainNumbers}
use Rattle.one_position.specs.Explain.{Told}

pub whole_numbers : {text : List ℕ} {id position : ℕ} {e : Explained} → Told text id position e → {r : ExplainNumbers} → r ≡ explain_numbers (told e) → r ≡ explain_numbers (writer_in true roomy text id position)
whole_numbers w q = q ∙ ap explain_numbers w.says

pub ruleset numbers = (rules, whole_numbers)
