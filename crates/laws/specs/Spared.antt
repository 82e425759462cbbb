-- What lies outside one area's image.
-- Assumes nothing.
use Rattle.std.specs.Prelude.{ℕ, ◌+◌, ◌≡◌, List, take, drop}

-- masks that differ in an image of a size, which starts at a place, and nowhere else
pub record Spared (start size : ℕ) (ms ms' : List ℕ) : Type 0 where
  pub before : take start ms' ≡ take start ms
  pub behind : drop (start + size) ms' ≡ drop (start + size) ms
