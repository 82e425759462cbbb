-- Where an area's image is, in the definition's words.
-- Assumes nothing.
use Rattle.std.specs.Prelude.{ℕ, ◌+◌, List, leb}
use Rattle.std.proofs.Math.Option.{Option, none, some}
use Rattle.format.specs.Lists.{pick}
use Rattle.format.specs.Tables.{rank, offset}
use Rattle.format.specs.Placing.{extent}
use Rattle.laws.specs.Rows.{areas_in}
use Rattle.homes.specs.declared.Home.{Home}

-- of an area that is not kept
abbrev pub no_home : ℕ → Home
no_home i = record { area = i; id = 0; start = 0; size = 0 }

-- by an area's rank among the kept ones
abbrev pub home_by_of : (i start size : ℕ) → Option ℕ → Home
home_by_of i start size none = no_home i
home_by_of i start size (some k) = record { area = i; id = k + 1; start = start; size = size }

-- of the area i of n
unfoldable pub home_at : (areas : List ℕ) (n i : ℕ) → Home
home_at areas n i = pick (leb n 64) (home_by_of i (offset (areas_in areas n) i) (extent (areas_in areas n) i) (rank 0 (areas_in areas n) i)) (no_home i)
