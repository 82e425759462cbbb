-- Maps of small modules: one with a position that two lines write, one that one line writes, and one that none does; and one with a relocated byte.
-- Assumes nothing.
use Rattle.std.specs.Prelude.{ℕ, ◌≡◌, refl, List, [], ◌∷◌}
use Rattle.format.specs.Lists.{over}
use Rattle.format.specs.Outcome.{fine, refused}
use Rattle.format.specs.Text.{bytes_of}
use Rattle.format.specs.Evaluate.{evaluate}
use Rattle.laws.specs.PairRows.{walk_of}
use Rattle.order.specs.Writes.{cell_of, cells_of, lay, writes}
use Rattle.covered.specs.Covered.{covered_by, map_in, map_of, marked_by, unwritten_in}

-- 11 22 at 0, and then 33 at 1, in an area of three positions: the last is not written, and the second counts once
pub twice : List ℕ
unfolding bytes_of
twice = bytes_of "XH2\nA C size 3 flags 20\nT 00 00 11 22\nR 00 00 00 00\nT 00 01 33\nR 00 00 00 00\n"

-- a word at 0 that is relocated, in an area of three positions; the mask of both its bytes is 0
pub relocated : List ℕ
unfolding bytes_of
relocated = bytes_of "XH2\nA C size 3 flags 20\nT 00 00 00 00\nR 00 00 00 00 00 02 00 00\n"

pub maps : (map_in 65536 twice ≡ fine (1 ∷ 1 ∷ 0 ∷ []))
    × (covered_by (map_in 65536 twice) ≡ fine (record { positions = 3; unwritten = 1 }))
    × (map_in 65536 relocated ≡ fine (1 ∷ 1 ∷ 0 ∷ []))
    × (map_in 65535 twice ≡ refused 1 0)
    × (map_in 65536 (bytes_of "XH2") ≡ refused 4 0)
unfolding evaluate bytes_of twice relocated map_in map_of marked_by unwritten_in writes cells_of cell_of lay walk_of
maps = (refl, refl, refl, refl, refl)
