-- The name of a listed symbol: out of the newer text, or out of the older one where the newer lacks it.
-- Assumes nothing.
use Rattle.std.specs.Prelude.{ℕ, List, eqb}
use Rattle.format.specs.Lists.{pick}
use Rattle.laws.specs.Rows.{symbol_at}
use Rattle.row_parts.specs.Parts.{name_in}
use Rattle.difference.specs.Rows.{symbol_only_old}

-- by its row's kind and indexes, and the symbol rows of both
unfoldable pub listed_name : (older newer olds news : List ℕ) → (kind i j : ℕ) → List ℕ
listed_name older newer olds news kind i j =
    pick (eqb kind symbol_only_old) (name_in older (symbol_at olds i).name) (name_in newer (symbol_at news j).name)
