-- The rule at one position.
-- Assumes nothing.
use Rattle.std.specs.Prelude.{ℕ, ◌≤◌, List, get_or, length, ltb, Option as Answer, Some, None}
use Rattle.std.proofs.Math.Option.{Option, none, some}
use Rattle.format.specs.Lists.{pick}
use Rattle.difference.specs.Module.{Cell}
use Rattle.position_tests.specs.declared.tests.Cell as code

-- the larger of two numbers
pub record Larger (a b r : ℕ) : Type 0 where
  pub first : a ≤ r
  pub second : b ≤ r
  pub least : (c : ℕ) → a ≤ c → b ≤ c → r ≤ c

-- position i of an image, if it is there
unfoldable pub cell_at : (values masks : List ℕ) → ℕ → Option Cell
cell_at vs ms i = pick (ltb i (length vs)) (some (record { value = get_or vs i 0; mask = get_or ms i 0 })) none

-- the code's position as the definition has it
abbrev pub told_cell : Answer code.Cell → Option Cell
told_cell (Some c) = some (record { value = c.value; mask = c.mask })
told_cell None = none
