-- The rule at one pair of areas, by rows.
-- Assumes nothing.
use Rattle.std.specs.Prelude.{ℕ, Bool, false, true, ◌&&◌, List, [], ◌∷◌, ◌++◌, take, drop, leb, ltb}
use Rattle.std.proofs.Math.Option.{Option, none, some}
use Rattle.format.specs.Lists.{pick}
use Rattle.format.specs.Fixups.{Fixup}
use Rattle.difference.specs.Module.{Cell, cells}
use Rattle.difference.specs.Changes.{Change, area, newer, older, paired, position_change}
use Rattle.change_rows.specs.Room.{few_of, paired_masks}
use Rattle.fixup_changes.specs.Here.{lacking_in}

-- an area's image, or none behind the last area
unfoldable pub image_at : (values masks : List ℕ) → (start size i n : ℕ) → Option (List Cell)
image_at vs ms start size i n = pick (ltb i n) (some (cells (take size (drop start vs)) (take size (drop start ms)))) none

-- the areas of an id
unfoldable pub area_here : (s : List ℕ) → List Fixup → (t : List ℕ) → List Fixup → ℕ → Option (List Cell) → Option (List Cell) → List Change
area_here s xs t ys id (some cs) (some ds) = paired (position_change id) 0 cs ds ++ (lacking_in false id s xs t ys ++ lacking_in true id t ys s xs)
area_here s xs t ys id (some cs) none = area older id ∷ []
area_here s xs t ys id none (some ds) = area newer id ∷ []
area_here s xs t ys id none none = []

-- what a walk over all areas can take: images with a mask for each position, at most 64 areas and 1,024 fixups on a side
unfoldable pub areas_fit : (a : ℕ) (v k : List ℕ) (m b : ℕ) (w l : List ℕ) (n : ℕ) → Bool
areas_fit a v k m b w l n = paired_masks v k && (paired_masks w l && (leb a 64 && (leb b 64 && few_of 0 m n)))
