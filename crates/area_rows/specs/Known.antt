-- Known bits as a number of a row.
-- Assumes nothing.
use Rattle.std.specs.Prelude.{ℕ, leb}
use Rattle.format.specs.Lists.{pick}

-- at most the largest number of 32 bits
unfoldable pub narrowed : ℕ → ℕ
narrowed n = pick (leb n 4294967295) n 4294967295
