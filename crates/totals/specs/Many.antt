-- The totals of many modules, one added after the other, and their exact sums.
-- Assumes nothing.
use Rattle.std.specs.Prelude.{◌≡◌, ℕ, ◌+◌, ◌*◌, ◌≤◌, List, [], ◌∷◌}
use Rattle.totals.specs.declared.Totals.{Totals}
use Rattle.totals.specs.Totals.{plus}

-- one after the other
unfoldable pub added : Totals → List Totals → Totals
added t [] = t
added t (m ∷ ms) = added (plus t m) ms

-- the exact sum of a number
unfoldable pub exactly : (Totals → ℕ) → List Totals → ℕ
exactly g [] = 0
exactly g (m ∷ ms) = g m + exactly g ms

-- how many names are taken
abbrev pub most_modules : ℕ
most_modules = 10000

-- the most that a number of one module can be: 64 numbers of 32 bits
abbrev pub most_of_one : ℕ
most_of_one = 64 * 4294967295

-- a number of 64 bits is less than this
abbrev pub end_of_totals : ℕ
end_of_totals = 18446744073709551616

-- each module's number is no more than the most
abbrev pub AllLow : (Totals → ℕ) → List Totals → Type 0
AllLow g [] = Unit {0}
AllLow g (m ∷ ms) = (g m ≤ most_of_one) × AllLow g ms

-- every number of totals
pub data Number : Type 0 where
  modules refused finished stopped unequal kept positions unwritten known fixups addr19 addr11 addr24 addr16 byte : Number

abbrev pub number : Number → Totals → ℕ
number modules t = t.verdicts.modules
number refused t = t.verdicts.refused
number finished t = t.verdicts.finished
number stopped t = t.verdicts.stopped
number unequal t = t.verdicts.unequal
number kept t = t.figures.kept
number positions t = t.figures.positions
number unwritten t = t.figures.unwritten
number known t = t.figures.known
number fixups t = t.figures.fixups
number addr19 t = t.classes.addr19
number addr11 t = t.classes.addr11
number addr24 t = t.classes.addr24
number addr16 t = t.classes.addr16
number byte t = t.classes.byte
