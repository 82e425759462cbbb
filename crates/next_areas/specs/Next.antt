-- The kept areas one after the other.
-- Assumes nothing.
use Rattle.std.specs.Prelude.{ℕ, ◌-◌, not, List}
use Rattle.format.specs.Tables.{kept}
use Rattle.laws.specs.Rows.{area_at}
use Rattle.row_parts.specs.Ranges.{passing}

-- the first of n areas, from i on, that is kept
unfoldable pub next_kept : List ℕ → (n i : ℕ) → ℕ
next_kept areas n i = passing (λ (j : ℕ). not (kept (area_at areas j))) i (n - i)
