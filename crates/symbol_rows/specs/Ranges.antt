-- The rows of an area's symbols, which stand together.
-- Assumes nothing.
use Rattle.std.specs.Prelude.{ℕ, suc, ◌+◌, ◌*◌, Bool, true, false, List, get_or, eqb}
use Rattle.row_parts.specs.Ranges.{same_as, run_of}
use Rattle.row_parts.specs.declared.range.Range.{Range}

-- whether symbol j lies in area i; or whether it does not
unfoldable pub symbol_in : List ℕ → (i : ℕ) → Bool → ℕ → Bool
symbol_in rows i same j = same_as (eqb (get_or rows (5 * j + 4) 0) (suc i)) same

abbrev pub symbols_of : List ℕ → (n i : ℕ) → Range
symbols_of rows n i = run_of (symbol_in rows i true) (symbol_in rows i false) n
