-- The rows of numbers that stand for areas, symbols and fixups.
-- Assumes nothing.
use Rattle.std.specs.Prelude.{suc, ℕ, Bool, false, true, List, [], ◌∷◌, ◌++◌, drop, length, take}
use Rattle.std.proofs.Math.Option.{Option, none, some}
use Rattle.format.specs.Tables.{Area, Symbol, base, kept_size}
use Rattle.format.specs.Known.{ones_of}
use Rattle.format.specs.Fixups.{Fixup}

-- numbers in a row of each table
abbrev pub area_columns : ℕ
area_columns = 7

abbrev pub symbol_columns : ℕ
symbol_columns = 5

abbrev pub fixup_columns : ℕ
fixup_columns = 9

-- 1 for true
abbrev pub flag : Bool → ℕ
flag true = 1
flag false = 0

-- an index plus 1, or 0 for none
abbrev pub plus_one_or_zero : Option ℕ → ℕ
plus_one_or_zero none = 0
plus_one_or_zero (some n) = suc n

-- 1 if there is one
abbrev pub given : Option ℕ → ℕ
given none = 0
given (some n) = 1

-- name's place and length, size, flags, whether addr is given, addr or 0, known bits
unfoldable pub area_numbers : (known : ℕ) → Area → List ℕ
area_numbers known a = a.name.at ∷ a.name.length ∷ a.size ∷ a.flags ∷ given a.addr ∷ base a ∷ known ∷ []

-- the rows of areas whose masks stand one behind the other: each with the ones over its own
unfoldable pub area_table : List Area → (masks : List ℕ) → List ℕ
area_table [] masks = []
area_table (a ∷ rest) masks = area_numbers (ones_of (take (kept_size a) masks)) a ++ area_table rest (drop (kept_size a) masks)

-- name's place and length, Ref, value, area plus 1 or 0 for none
unfoldable pub symbol_numbers : Symbol → List ℕ
symbol_numbers s = s.name.at ∷ s.name.length ∷ flag s.ref ∷ s.value ∷ plus_one_or_zero s.area ∷ []

-- id of the area it lies in, position, size, mode, outside symbol or not, id or the name's place, the name's length or 0, value, number
unfoldable pub fixup_numbers : Fixup → List ℕ
fixup_numbers x =
    x.home ∷ x.position ∷ x.size ∷ x.mode ∷ x.refers.outside ∷ x.refers.what ∷ x.refers.length ∷ x.refers.value ∷ x.number ∷ []
