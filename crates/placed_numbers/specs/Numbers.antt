-- The answer about placed code as numbers.
-- Assumes nothing.
use Rattle.std.specs.Prelude.{ℕ}
use Rattle.format.specs.Outcome.{Outcome, fine, refused}
use Rattle.placed_numbers.specs.declared.PlaceNumbers.{PlaceNumbers}

-- a refusal, or how many bytes were placed
abbrev pub place_numbers : Outcome ℕ → PlaceNumbers
place_numbers (fine n) = record { refusal = 0; place = 0; bytes = n }
place_numbers (refused n p) = record { refusal = n; place = p; bytes = 0 }
