-- Positions of kept areas by what is known of them, told from their masks and from the map of what is written.
-- Assumes nothing.
use Rattle.std.specs.Prelude.{ℕ, zero, suc, ◌+◌, List, eqb, get_or}
use Rattle.format.specs.Lists.{pick}
use Rattle.kinds.specs.declared.Kinds.{Kinds}

-- 0 for a position that no line writes, whatever its mask; else 1 where all bits are known, 3 where none is (the byte is relocated), 2 where some are
unfoldable pub kind_of : (mask mark : ℕ) → ℕ
kind_of mask mark = pick (eqb mark 0) 0 (pick (eqb mask 255) 1 (pick (eqb mask 0) 3 2))

-- how many of n positions from one on are of a kind
unfoldable pub kind_count : (masks map : List ℕ) (kind i n : ℕ) → ℕ
kind_count masks map kind i zero = 0
kind_count masks map kind i (suc n) = pick (eqb (kind_of (get_or masks i 0) (get_or map i 0)) kind) 1 0 + kind_count masks map kind (suc i) n

-- the first n positions
unfoldable pub kinds_in : (masks map : List ℕ) (n : ℕ) → Kinds
kinds_in masks map n = record {
  unwritten = kind_count masks map 0 0 n;
  known = kind_count masks map 1 0 n;
  partly = kind_count masks map 2 0 n;
  relocated = kind_count masks map 3 0 n;
}
