-- Room in a list of a length, from a place on.
-- Assumes nothing.
use Rattle.std.specs.Prelude.{ℕ, ◌+◌, ◌-◌, ◌≤◌, ◌<◌}

-- r of n elements have room, and no more of them
pub record Room (length at n r : ℕ) : Type 0 where
  pub few : r ≤ n
  pub inside : r ≤ length - at
  pub most : r < n → length ≤ at + r
