-- The fragments that three lent columns hold.
-- Assumes nothing.
use Rattle.std.specs.Prelude.{ℕ, List, get_or}
use Rattle.format.specs.Pairs.{Fragment}
use Rattle.laws.specs.Rows.{from, fragment}

-- the i-th mode, entry and index
unfoldable pub fragment_at : (ms es xs : List ℕ) → ℕ → Fragment
fragment_at ms es xs i = fragment (get_or ms i 0) (get_or es i 0) (get_or xs i 0)

-- the first c of them
unfoldable pub fragments_in : (ms es xs : List ℕ) → ℕ → List Fragment
fragments_in ms es xs c = from (fragment_at ms es xs) 0 c
