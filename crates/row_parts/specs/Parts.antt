-- A part of a text or of an image, and a name as such a part.
-- Assumes nothing.
use Rattle.std.specs.Prelude.{ℕ, ◌-◌, List, [], length, take, drop, leb}
use Rattle.format.specs.Lists.{pick}
use Rattle.format.specs.Number.{Name}

-- so many bytes from a place on, or none where they do not fit
unfoldable pub part_of : List ℕ → (start len : ℕ) → List ℕ
part_of s start len = pick (leb start (length s)) (pick (leb len (length s - start)) (take len (drop start s)) []) []

-- the bytes of a name
abbrev pub name_in : List ℕ → Name → List ℕ
name_in s n = part_of s n.at n.length
