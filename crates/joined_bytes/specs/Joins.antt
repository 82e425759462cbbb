-- What the short ways find: bytes of two capital digits of radix 16, joined, where the answer is below a limit.
-- Assumes nothing.
use Rattle.std.specs.Prelude.{ℕ, ◌<◌, ◌≤◌, ◌≡◌, Bool, List, length}
use Rattle.format.specs.Number.{joined}
use Rattle.format.specs.Got.{is}

-- n + 1 bytes joined, up to a place
pub record Joins (radix : ℕ) (big : Bool) (n : ℕ) (s : List ℕ) (at next limit v : ℕ) : Type 0 where
  pub inside : v < limit → next ≤ length s
  pub got : v < limit → joined radix big n s at ≡ is v next
