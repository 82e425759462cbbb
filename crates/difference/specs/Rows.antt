-- A change as a row of eight numbers. Kinds are named constants; numbers that a kind has no use for are 0.
-- Assumes nothing.
use Rattle.std.specs.Prelude.{ℕ, List, [], ◌∷◌}
use Rattle.std.proofs.Math.Option.{none, some}
use Rattle.difference.specs.Changes.{Change, area, fixup, newer, older, position, symbol, value}

abbrev pub change_columns : ℕ
change_columns = 8

abbrev pub position_differs : ℕ
position_differs = 0

abbrev pub position_only_old : ℕ
position_only_old = 1

abbrev pub position_only_new : ℕ
position_only_new = 2

abbrev pub fixup_only_old : ℕ
fixup_only_old = 3

abbrev pub fixup_only_new : ℕ
fixup_only_new = 4

abbrev pub area_only_old : ℕ
area_only_old = 5

abbrev pub area_only_new : ℕ
area_only_new = 6

abbrev pub value_differs : ℕ
value_differs = 7

abbrev pub symbol_only_old : ℕ
symbol_only_old = 8

abbrev pub symbol_only_new : ℕ
symbol_only_new = 9

-- kind, id; position, old value, old mask, new value, new mask; or the index of the fixup row; or the index of the symbol row on each side
unfoldable pub change_numbers : Change → List ℕ
change_numbers (position id at (some c) (some d)) = position_differs ∷ id ∷ at ∷ c.value ∷ c.mask ∷ d.value ∷ d.mask ∷ 0 ∷ []
change_numbers (position id at (some c) none) = position_only_old ∷ id ∷ at ∷ c.value ∷ c.mask ∷ 0 ∷ 0 ∷ 0 ∷ []
change_numbers (position id at none (some d)) = position_only_new ∷ id ∷ at ∷ 0 ∷ 0 ∷ d.value ∷ d.mask ∷ 0 ∷ []
change_numbers (position id at none none) = position_differs ∷ id ∷ at ∷ 0 ∷ 0 ∷ 0 ∷ 0 ∷ 0 ∷ []
change_numbers (fixup older id i) = fixup_only_old ∷ id ∷ i ∷ 0 ∷ 0 ∷ 0 ∷ 0 ∷ 0 ∷ []
change_numbers (fixup newer id i) = fixup_only_new ∷ id ∷ i ∷ 0 ∷ 0 ∷ 0 ∷ 0 ∷ 0 ∷ []
change_numbers (area older id) = area_only_old ∷ id ∷ 0 ∷ 0 ∷ 0 ∷ 0 ∷ 0 ∷ 0 ∷ []
change_numbers (area newer id) = area_only_new ∷ id ∷ 0 ∷ 0 ∷ 0 ∷ 0 ∷ 0 ∷ 0 ∷ []
change_numbers (value i j) = value_differs ∷ 0 ∷ i ∷ j ∷ 0 ∷ 0 ∷ 0 ∷ 0 ∷ []
change_numbers (symbol older i) = symbol_only_old ∷ 0 ∷ i ∷ 0 ∷ 0 ∷ 0 ∷ 0 ∷ 0 ∷ []
change_numbers (symbol newer i) = symbol_only_new ∷ 0 ∷ 0 ∷ i ∷ 0 ∷ 0 ∷ 0 ∷ 0 ∷ []
