-- Fixups counted by class, and the known bits of areas added up.
-- Assumes nothing.
use Rattle.std.specs.Prelude.{ℕ, ◌+◌, List, [], ◌∷◌, eqb}
use Rattle.format.specs.Lists.{pick}
use Rattle.format.specs.Fixups.{Fixup}
use Rattle.format.specs.Mode.{Addr11, Addr16, Addr19, Addr24, Byte, class_number, class_number_of}
use Rattle.laws.specs.Rows.{from, known_at}
use Rattle.figures.specs.declared.Classes.{Classes}

-- how many fixups are of the class with a number
unfoldable pub class_count : ℕ → List Fixup → ℕ
class_count k [] = 0
class_count k (f ∷ fs) = pick (eqb (class_number_of f.mode) k) 1 0 + class_count k fs

-- by class; a mode of class Other gives no fixup
unfoldable pub classes_of : List Fixup → Classes
classes_of fs = record {
  addr19 = class_count (class_number Addr19) fs;
  addr11 = class_count (class_number Addr11) fs;
  addr24 = class_count (class_number Addr24) fs;
  addr16 = class_count (class_number Addr16) fs;
  byte = class_count (class_number Byte) fs;
}

unfoldable pub sum : List ℕ → ℕ
sum [] = 0
sum (x ∷ xs) = x + sum xs

-- the known bits of the first n areas
unfoldable pub known_in : List ℕ → (n : ℕ) → ℕ
known_in rows n = sum (from (known_at rows) 0 n)
