-- The numbers of fixup rows, area by area.
-- Assumes nothing.
use Rattle.std.specs.Prelude.{ℕ, ◌+◌, ◌*◌, ◌≡◌, Bool, ◌&&◌, List, [], eqb, leb, length, Option, Some, None}
use Rattle.std.proofs.Math.Option as math
use Rattle.std.proofs.lemmas.List.Edits.{sets}
use Rattle.format.specs.Lists.{pick, flat, over}
use Rattle.format.specs.Fixups.{Fixup, of_area, by_area}
use Rattle.format.specs.Rows.{fixup_numbers}
use Rattle.laws.specs.Rows.{fixups_in}

-- one row, if it lies in an area
unfoldable pub row_for : ℕ → Fixup → List ℕ
row_for id x = pick (eqb x.home id) (fixup_numbers x) []

-- the rows of one area
unfoldable pub area_for : ℕ → List Fixup → List ℕ
area_for id xs = flat fixup_numbers (of_area id xs)

-- n areas from an id on
unfoldable pub areas_for : (n id : ℕ) → List Fixup → List ℕ
areas_for n id xs = flat fixup_numbers (by_area n id xs)

-- ys stored from at on: the place behind them, and the list
pub record Stored (ys : List ℕ) (at : ℕ) (out : List ℕ) (r : ℕ) (out' : List ℕ) : Type 0 where
  pub next : r ≡ at + length ys
  pub stored : out' ≡ sets out at ys

-- whether k rows are lent, and there is room for as many
unfoldable pub room_for : ℕ → (rows out : List ℕ) → Bool
room_for k rows out = leb (9 * k) (length rows) && leb (9 * k) (length out)

abbrev pub told : Option ℕ → math.Option ℕ
told (Some n) = math.some n
told None = math.none

-- the rows of n areas laid over a buffer; or a misfit, and nothing has changed
pub record Regrouped (k n : ℕ) (rows out : List ℕ) (r : Option ℕ) (out' : List ℕ) : Type 0 where
  pub says : told r ≡ pick (room_for k rows out) (math.some (length (areas_for n 0 (fixups_in rows k)))) math.none
  pub stored : out' ≡ pick (room_for k rows out) (over (areas_for n 0 (fixups_in rows k)) out) out
