-- The ones in masks, counted while the masks are written.
-- Assumes nothing.
use Rattle.std.specs.Prelude.{ℕ, ◌+◌, ◌*◌, ◌≤◌, ◌≡◌, List, set}
use Rattle.format.specs.Known.{ones_of}

-- a count over n entries: it moves as the ones of the masks do, by 8 for each entry at most
pub record Counted (n count : ℕ) (ms : List ℕ) (r : ℕ) (ms' : List ℕ) : Type 0 where
  pub moves : r + ones_of ms ≡ count + ones_of ms'
  pub low : count ≤ r + 8 * n
  pub high : r ≤ count + 8 * n

-- a mask stored
pub record Marked (to m count : ℕ) (ms : List ℕ) (r : ℕ) (ms' : List ℕ) : Type 0 where
  pub stored : ms' ≡ set ms to m
  pub counted : Counted 1 count ms r ms'
