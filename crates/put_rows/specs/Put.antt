-- The row of an area and the row of a symbol over lent numbers.
-- Assumes nothing.
use Rattle.std.specs.Prelude.{ℕ, ◌*◌, Bool, List, leb, ltb}
use Rattle.std.proofs.Math.Option.{Option}
use Rattle.std.proofs.lemmas.List.Edits.{sets}
use Rattle.format.specs.Lists.{pick}
use Rattle.format.specs.Tables.{area_row, named, last_index}
use Rattle.format.specs.Rows.{area_numbers, symbol_numbers}
use Rattle.entry_line.specs.Told.{name_of}

-- a place, a length or a count, held at the 65,536 that no text passes
unfoldable pub short_of : ℕ → ℕ
short_of n = pick (leb n 65536) n 65536

-- of 64 rows the one at an index, for an area of a line at a place
unfoldable pub area_put : List ℕ → (row place name len size flags : ℕ) → Option ℕ → List ℕ
area_put rows row p a k z g x =
    pick (ltb row 64) (sets rows (7 * row) (area_numbers 0 (area_row (short_of p) (name_of (short_of a) (short_of k)) z g x))) rows

-- of 1,024 rows the one at an index, for a symbol of a line at a place, behind so many areas
unfoldable pub symbol_put : List ℕ → (row place name len : ℕ) → Bool → (value areas : ℕ) → List ℕ
symbol_put rows row p a k r v n =
    pick (ltb row 1024) (sets rows (5 * row) (symbol_numbers (record { name = named (short_of p) (name_of (short_of a) (short_of k)); ref = r; value = v; area = last_index (short_of n) }))) rows
