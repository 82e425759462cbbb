-- The lines of pairs as they are written, each with its LF.
-- Assumes nothing.
use Rattle.std.specs.Prelude.{ℕ, ◌*◌, ◌+◌, Bool, List, ◌++◌, get_or}
use Rattle.format.specs.Lists.{flat}
use Rattle.laws.specs.Rows.{from}
use Rattle.row_parts.specs.Parts.{part_of}
use Rattle.content_out.specs.ContentOut.{content_out}
use Rattle.relocation_out.specs.RelocationOut.{relocation_out}

-- the T line and the R line of the i-th pair
unfoldable pub pair_out : (big : Bool) (k : ℕ) (pairs content fragments : List ℕ) → ℕ → List ℕ
pair_out big k pairs content fragments i =
    content_out big k (get_or pairs (7 * i + 1) 0) (part_of content (get_or pairs (7 * i + 3) 0) (get_or pairs (7 * i + 4) 0))
    ++ relocation_out big (get_or pairs (7 * i + 2) 0) fragments (get_or pairs (7 * i + 5) 0) (get_or pairs (7 * i + 6) 0)

-- the lines of n pairs from the i-th on
unfoldable pub pairs_out : (big : Bool) (k : ℕ) (pairs content fragments : List ℕ) → (i n : ℕ) → List ℕ
pairs_out big k pairs content fragments i n = flat (pair_out big k pairs content fragments) (from (λ j. j) i n)
