-- R lines as they are written, each with its LF; the fragments stand in rows of three numbers.
-- Assumes nothing.
use Rattle.std.specs.Prelude.{ℕ, ◌%◌, ◌*◌, ◌+◌, Bool, List, [], ◌++◌, ◌∷◌, get_or}
use Rattle.format.specs.Lists.{flat}
use Rattle.format.specs.Pairs.{Fragment}
use Rattle.laws.specs.Rows.{fragment, from}
use Rattle.manual.specs.WrittenPairs.{shortest}
use Rattle.written.specs.Shapes.{hex_bytes}
use Rattle.content_out.specs.ContentOut.{low_bytes}

-- a fragment's bytes: of its mode 11 bits count, of its entry eight
unfoldable pub part_bytes : Bool → Fragment → List ℕ
part_bytes big f = shortest (f.mode % 2048) ++ (f.entry % 256 ∷ low_bytes big 2 f.index)

-- the i-th row
unfoldable pub row_at : List ℕ → ℕ → Fragment
row_at rows i = fragment (get_or rows (3 * i) 0) (get_or rows (3 * i + 1) 0) (get_or rows (3 * i + 2) 0)

-- the bytes of n fragments from the first on
unfoldable pub parts_of : Bool → List ℕ → (first n : ℕ) → List ℕ
parts_of big rows first n = flat (part_bytes big) (from (row_at rows) first n)

-- R, index 0, the area's index, the fragments, LF
unfoldable pub relocation_out : Bool → (area : ℕ) → List ℕ → (first n : ℕ) → List ℕ
relocation_out big area rows first n = (82 ∷ hex_bytes (0 ∷ 0 ∷ (low_bytes big 2 area ++ parts_of big rows first n))) ++ 10 ∷ []
