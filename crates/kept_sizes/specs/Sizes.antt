-- The kept areas of rows: how many there are, and their sizes in all.
-- Assumes nothing.
use Rattle.std.specs.Prelude.{ℕ, ◌≤◌, ◌≡◌, List, leb}
use Rattle.format.specs.Lists.{pick}
use Rattle.format.specs.Tables.{total, kept_count}
use Rattle.laws.specs.Rows.{areas_in}
use Rattle.kept_sizes.specs.declared.Sizes.{Sizes}

-- at most the 64 rows that there are
unfoldable pub few : ℕ → ℕ
few n = pick (leb n 64) n 64

-- the first two fix the answer; the third follows
pub record SizesAre (areas : List ℕ) (n : ℕ) (r : Sizes) : Type 0 where
  pub total-is : r.total ≡ total (areas_in areas n)
  pub kept-is : r.kept ≡ kept_count (areas_in areas n)
  pub kept_low : r.kept ≤ 64
