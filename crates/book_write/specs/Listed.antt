-- Entries by a list of their numbers.
-- Assumes nothing.
use Rattle.std.specs.Prelude.{ℕ, zero, suc, List, [], ◌∷◌, get_or}
use Rattle.book.specs.Entries.{Entry}
use Rattle.book.specs.Given.{entry_at}

-- n entries, from the i-th number of the list on
unfoldable pub listed : List ℕ → List ℕ → List ℕ → ℕ → ℕ → List Entry
listed pool rows order i zero = []
listed pool rows order i (suc n) = entry_at pool rows (get_or order i 0) ∷ listed pool rows order (suc i) n
