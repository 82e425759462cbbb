-- The exported function's contract.
-- Assumes nothing.
use Rattle.std.specs.Prelude.{ℕ, ◌≡◌, List}
use Rattle.convert_answer.specs.Converts.{Answer, Converts}
use Rattle.convert_answer.specs.Numbers.{convert_numbers}
use Rattle.convert_answer.specs.declared.ConvertNumbers.{ConvertNumbers}

-- the answer as numbers, and every lent byte
pub record ConvertsNumbers (text out : List ℕ) (numbers : ConvertNumbers) (out' : List ℕ) : Type 0 where
  pub answer : Answer
  pub converts : Converts text out answer out'
  pub says : numbers ≡ convert_numbers answer
