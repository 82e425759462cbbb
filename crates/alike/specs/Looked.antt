-- An index that passes a test: the one that is expected, or the first of all.
-- Assumes nothing.
use Rattle.std.specs.Prelude.{ℕ, Bool, not, ltb}
use Rattle.format.specs.Lists.{pick}
use Rattle.row_parts.specs.Ranges.{passing}

-- the first of n indexes that passes, or n
unfoldable pub first_of : (ℕ → Bool) → ℕ → ℕ
first_of p n = passing (λ (j : ℕ). not (p j)) 0 n

-- the expected one of n if it passes, or else the first
unfoldable pub like_from : (ℕ → Bool) → (n expected : ℕ) → ℕ
like_from p n expected = pick (ltb expected n) (pick (p expected) expected (first_of p n)) (first_of p n)
