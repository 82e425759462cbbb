-- Known bits: the ones in masks, 8 for FF and 5 for 1F.
-- Assumes nothing.
use Rattle.std.specs.Prelude.{ℕ, ◌+◌, List, [], ◌∷◌, drop, take}
use Rattle.std.specs.Int.Count.{ones}
use Rattle.format.specs.Tables.{Area, offset}
use Rattle.format.specs.Placing.{extent}

-- the ones in some masks
unfoldable pub ones_of : List ℕ → ℕ
ones_of [] = 0
ones_of (m ∷ ms) = ones m + ones_of ms

-- the known bits of the i-th area: the ones over its part of the masks, none for an area that is not kept
unfoldable pub known_bits : List Area → ℕ → List ℕ → ℕ
known_bits areas i masks = ones_of (take (extent areas i) (drop (offset areas i) masks))
