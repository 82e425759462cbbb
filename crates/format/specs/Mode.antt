-- Modes: their bits, the class that bits 0, 3, 7 and 8 decide, and what each class touches, joins, leaves on site and gives.
-- Assumes nothing.
use Rattle.std.specs.Prelude.{ℕ, ◌%◌, ◌/◌, ◌^◌, Bool, false, not, true, ◌||◌, eqb}
use Rattle.format.specs.Lists.{pick}

-- bit k of a number
unfoldable pub bit : ℕ → ℕ → Bool
bit k m = eqb (m / 2 ^ k % 2) 1

-- the six classes of modes
pub data Class : Type 0 where
  Addr19 Addr11 Addr24 Addr16 Byte Other : Class

-- the class that bits 0, 3, 7 and 8 decide
unfoldable pub class_of : ℕ → Class
class_of m =
    pick (bit 0 m)
    (pick (bit 3 m || bit 8 m) Other Byte)
    (pick (bit 3 m)
    (pick (bit 7 m) Addr19 Addr11)
    (pick (bit 7 m) Addr24 (pick (bit 8 m) Other Addr16)))

-- a class's number, as the table of 2,048 modes has it
abbrev pub class_number : Class → ℕ
class_number Addr19 = 0
class_number Addr11 = 1
class_number Addr24 = 2
class_number Addr16 = 3
class_number Byte = 4
class_number Other = 5

-- the number of a mode's class
unfoldable pub class_number_of : ℕ → ℕ
class_number_of m = class_number (class_of m)

-- how many entries a mode touches
abbrev pub touched_of : Class → Bool → ℕ
touched_of Addr19 three = 4
touched_of Addr11 three = 3
touched_of Addr24 three = 3
touched_of Addr16 three = 2
touched_of Byte three = 1
touched_of Other three = pick three 3 2

-- the same of a mode
unfoldable pub touched : ℕ → ℕ
touched m = touched_of (class_of m) (bit 8 m)

-- how many bytes stand on site afterwards
abbrev pub size_of : Class → ℕ
size_of Addr19 = 3
size_of Addr11 = 2
size_of Addr24 = 3
size_of Addr16 = 2
size_of Byte = 1
size_of Other = 1

-- the same of a mode
unfoldable pub on_site : ℕ → ℕ
on_site m = size_of (class_of m)

-- whether the last touched value is an opcode that moves to the front
abbrev pub moves : Class → Bool
moves Addr19 = true
moves Addr11 = true
moves Addr24 = false
moves Addr16 = false
moves Byte = false
moves Other = false

-- how many values are joined into the fragment's number
abbrev pub joins : Class → ℕ
joins Addr19 = 3
joins Addr11 = 2
joins Addr24 = 3
joins Addr16 = 2
joins Byte = 1
joins Other = 0

-- whether a mode can give a fixup
abbrev pub gives_of : Class → ℕ → Bool
gives_of Addr19 m = not (bit 10 m)
gives_of Addr11 m = not (bit 10 m)
gives_of Addr24 m = not (bit 10 m)
gives_of Addr16 m = not (bit 10 m)
gives_of Byte m = bit 2 m
gives_of Other m = false

-- the same of a mode
unfoldable pub gives : ℕ → Bool
gives m = gives_of (class_of m) m
