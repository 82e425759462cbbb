-- The lent rows of numbers, and what they stand for: areas, symbols, fixups; and the state of placing.
-- Assumes nothing.
use Rattle.std.specs.Prelude.{ℕ, zero, suc, ◌+◌, ◌*◌, List, [], ◌∷◌, get_or, eqb}
use Rattle.std.proofs.Math.Option.{Option, none, some}
use Rattle.format.specs.Pairs.{Fragment}
use Rattle.format.specs.Lists.{pick}
use Rattle.format.specs.Tables.{Area, Symbol, Tables, last_index}
use Rattle.format.specs.Fixups.{Fixup}
use Rattle.format.specs.Placing.{State}

-- g i, g (i + 1), .., n of them
unfoldable pub from : {A : Type 0} → (ℕ → A) → ℕ → ℕ → List A
from g i zero = []
from g i (suc n) = g i ∷ from g (suc i) n

abbrev pub fragment : (mode entry index : ℕ) → Fragment
fragment m e i = record { mode = m; entry = e; index = i }

-- what is given only if the number before it is 1
abbrev pub given_by : (given n : ℕ) → Option ℕ
given_by given n = pick (eqb given 1) (some n) none

-- name's place, name's length, size, flags as read, addr given, addr; the known bits are no part of it
unfoldable pub area_at : List ℕ → ℕ → Area
area_at rows i = record {
  name = record { at = get_or rows (7 * i) 0; length = get_or rows (7 * i + 1) 0 };
  size = get_or rows (7 * i + 2) 0;
  flags = get_or rows (7 * i + 3) 0;
  addr = given_by (get_or rows (7 * i + 4) 0) (get_or rows (7 * i + 5) 0);
}

-- the known bits that the i-th area's row has
unfoldable pub known_at : List ℕ → ℕ → ℕ
known_at rows i = get_or rows (7 * i + 6) 0

unfoldable pub areas_in : List ℕ → ℕ → List Area
areas_in rows n = from (area_at rows) 0 n

-- name's place, name's length, 1 for Ref and else Def, value, area index plus 1 or 0
unfoldable pub symbol_at : List ℕ → ℕ → Symbol
symbol_at rows i = record {
  name = record { at = get_or rows (5 * i) 0; length = get_or rows (5 * i + 1) 0 };
  ref = eqb (get_or rows (5 * i + 2) 0) 1;
  value = get_or rows (5 * i + 3) 0;
  area = last_index (get_or rows (5 * i + 4) 0);
}

unfoldable pub symbols_in : List ℕ → ℕ → List Symbol
symbols_in rows n = from (symbol_at rows) 0 n

unfoldable pub tables_in : (areas : List ℕ) (na : ℕ) (symbols : List ℕ) (ns : ℕ) → Tables
tables_in areas na symbols ns = record { areas = areas_in areas na; symbols = symbols_in symbols ns }

-- id of the area it lies in, position, size, mode, outside symbol or not, id or the name's place, the name's length or 0, value, number
unfoldable pub fixup_from : List ℕ → ℕ → Fixup
fixup_from rows at = record {
  home = get_or rows at 0;
  position = get_or rows (at + 1) 0;
  size = get_or rows (at + 2) 0;
  mode = get_or rows (at + 3) 0;
  refers = record { outside = get_or rows (at + 4) 0; what = get_or rows (at + 5) 0; length = get_or rows (at + 6) 0; value = get_or rows (at + 7) 0 };
  number = get_or rows (at + 8) 0;
}

unfoldable pub fixup_row : List ℕ → ℕ → Fixup
fixup_row rows k = fixup_from rows (9 * k)

unfoldable pub fixups_in : List ℕ → ℕ → List Fixup
fixups_in rows n = from (fixup_row rows) 0 n

-- images, and fixup rows of which k are made
unfoldable pub state_of : (values masks rows : List ℕ) → ℕ → State
state_of vs ms rows k = record { values = vs; masks = ms; fixups = fixups_in rows k }
