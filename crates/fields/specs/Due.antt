-- Letters that are compared one after another with those that are due.
-- Assumes nothing.
use Rattle.std.specs.Prelude.{ℕ, ◌≡◌, Bool, ◌&&◌, eqb}

-- the answer is yes where a byte is the one that is due and it was yes before, and no elsewhere
pub record Due (b due : ℕ) (before r : Bool) : Type 0 where
  pub answer : r ≡ (eqb b due && before)
