-- The exported function's contract.
-- Assumes nothing.
use Rattle.std.specs.Prelude.{ℕ, ◌≡◌, List}
use Rattle.difference.specs.Told.{compare}
use Rattle.change_answer.specs.Numbers.{changed_numbers}
use Rattle.change_answer.specs.declared.ChangedNumbers.{ChangedNumbers}
use Rattle.changes_of.specs.Answer.{bounds}

-- the answer as numbers, and every number of the list
pub record Answers (s t list : List ℕ) (numbers : ChangedNumbers) (after : List ℕ) : Type 0 where
  pub says : numbers ≡ changed_numbers (compare bounds bounds s t list).answer
  pub list-is : after ≡ (compare bounds bounds s t list).list
