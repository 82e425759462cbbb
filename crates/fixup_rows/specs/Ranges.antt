-- The rows of an area's fixups, which stand together.
-- Assumes nothing.
use Rattle.std.specs.Prelude.{ℕ, ◌*◌, Bool, true, false, List, get_or, eqb}
use Rattle.row_parts.specs.Ranges.{same_as, run_of}
use Rattle.row_parts.specs.declared.range.Range.{Range}

-- whether fixup j lies in the area of an id; or whether it does not
unfoldable pub fixup_in : List ℕ → (id : ℕ) → Bool → ℕ → Bool
fixup_in rows id same j = same_as (eqb (get_or rows (9 * j) 0) id) same

abbrev pub fixups_of : List ℕ → (n id : ℕ) → Range
fixups_of rows n id = run_of (fixup_in rows id true) (fixup_in rows id false) n
