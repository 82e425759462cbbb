-- The answer about placed code as numbers, and the buffer.
-- Assumes nothing.
use Rattle.std.specs.Prelude.{ℕ, ◌≡◌, List, length}
use Rattle.placed_code.specs.Code.{code_of, count_of, held_after}
use Rattle.placed_numbers.specs.Numbers.{place_numbers}
use Rattle.placed_numbers.specs.declared.PlaceNumbers.{PlaceNumbers}

pub record PlacesNumbers (text areas symbols old : List ℕ) (r : PlaceNumbers) (new : List ℕ) : Type 0 where
  pub says : r ≡ place_numbers (count_of (code_of text areas symbols (length old)))
  pub held : new ≡ held_after (code_of text areas symbols (length old)) old
