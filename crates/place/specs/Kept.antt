-- Rows of areas that keep the known bits of the masks.
-- Assumes nothing.
use Rattle.std.specs.Prelude.{ℕ, ◌*◌, ◌≡◌, List, take}
use Rattle.format.specs.Rows.{area_table}
use Rattle.laws.specs.Rows.{areas_in}

-- the first n rows are those of their areas, with the known bits of these masks
pub record Kept (n : ℕ) (rows masks : List ℕ) : Type 0 where
  pub table : take (7 * n) rows ≡ area_table (areas_in rows n) masks
