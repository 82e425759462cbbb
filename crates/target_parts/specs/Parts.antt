-- What a target is made of: the bytes on site by a class that is given.
-- Assumes nothing.
use Rattle.std.specs.Prelude.{ℕ, ◌*◌, ◌+◌, Bool, List, drop, get_or, take}
use Rattle.format.specs.Number.{join}
use Rattle.format.specs.Mode.{Addr11, Addr16, Addr19, Addr24, Byte, Class, Other}

-- the bytes on site, with what the opcode of a short jump gives above the others
abbrev pub start_by : (opcode : ℕ) → Class → Bool → List ℕ → ℕ
start_by op Addr19 big bs = op * 65536 + join big (take 2 (drop 1 bs))
start_by op Addr11 big bs = op * 256 + get_or bs 1 0
start_by op Addr24 big bs = join big (take 3 bs)
start_by op Addr16 big bs = join big (take 2 bs)
start_by op Byte big bs = get_or bs 0 0
start_by op Other big bs = 0
