-- What the area rows of an accepted text say of its masks.
-- Assumes nothing.
use Rattle.std.specs.Prelude.{ℕ, ◌+◌, ◌*◌, ◌<◌, ◌≡◌, List, length, get_or}
use Rattle.std.proofs.Math.Option.{none}
use Rattle.format.specs.Tables.{Area, rank}
use Rattle.format.specs.Known.{known_bits}
use Rattle.format.specs.Rows.{area_columns}

-- the last number of an area's row
pub record KnownRight (areas : List Area) (rows masks : List ℕ) : Type 0 where
  -- is the sum of the ones over its masks
  pub sums : (i : ℕ) → i < length areas → get_or rows (area_columns * i + 6) 0 ≡ known_bits areas i masks
  -- and 0 if it is not kept
  pub unkept : (i : ℕ) → i < length areas → rank 0 areas i ≡ none → get_or rows (area_columns * i + 6) 0 ≡ 0
