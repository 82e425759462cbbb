-- Rows that stand together.
-- Assumes nothing.
use Rattle.std.specs.Prelude.{ℕ, zero, suc, ◌-◌, Bool, not}
use Rattle.format.specs.Lists.{pick}
use Rattle.row_parts.specs.declared.range.Range.{Range}

abbrev pub same_as : Bool → Bool → Bool
same_as b c = pick c b (not b)

-- the first of n indexes, from i on, that fails the test; i + n if none does
unfoldable pub passing : (ℕ → Bool) → (i n : ℕ) → ℕ
passing p i zero = i
passing p i (suc n) = let rest = passing p (suc i) n in pick (p i) rest i

-- the first row that lies in the area, and the first behind it that does not
abbrev pub run_of : (same other : ℕ → Bool) → ℕ → Range
run_of same other n = record { start = passing other 0 n; end = passing same (passing other 0 n) (n - passing other 0 n) }
