-- What the walks over two modules can take.
-- Assumes nothing.
use Rattle.std.specs.Prelude.{ℕ, Bool, ◌&&◌, List, length, eqb, leb}

-- at most 2^29 rows before, and at most 1,024 of each side
unfoldable pub few_of : (rows m n : ℕ) → Bool
few_of rows m n = leb rows 536870912 && (leb m 1024 && leb n 1024)

-- an image of at most 65,536 positions, with a mask for each
unfoldable pub paired_masks : (values masks : List ℕ) → Bool
paired_masks vs ms = leb (length vs) 65536 && eqb (length ms) (length vs)
