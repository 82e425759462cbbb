-- The part of the images that is an area's.
-- Assumes nothing.
use Rattle.std.specs.Prelude.{ℕ, List}
use Rattle.format.specs.Tables.{Area, offset}
use Rattle.format.specs.Placing.{extent}
use Rattle.row_parts.specs.Parts.{part_of}

-- the part of the images that is area i's
unfoldable pub image_in : List ℕ → List Area → ℕ → List ℕ
image_in image areas i = part_of image (offset areas i) (extent areas i)
