-- Which positions of the kept areas were written, told from the lines: a map of all of them, 1 where some pair writes and 0 where none does. A byte
-- that a pair relocates has mask 0 and is written all the same. The images are not looked at.
-- Assumes nothing.
use Rattle.std.specs.Prelude.{ℕ, ◌+◌, ◌≡◌, List, [], ◌∷◌, eqb, leb, length, replicate, true}
use Rattle.format.specs.Lists.{over, pick}
use Rattle.format.specs.Header.{Form}
use Rattle.format.specs.Outcome.{Outcome, fine, refused, and_then}
use Rattle.format.specs.Pairs.{Pair}
use Rattle.format.specs.Reading.{Read, read}
use Rattle.format.specs.Records.{Taken}
use Rattle.format.specs.Tables.{Tables, total}
use Rattle.order.specs.Writes.{Cell, lay, writes}
use Rattle.record_rows.specs.ReadPairs.{roomy}

-- a map once pairs marked what they write
unfoldable pub marked_by : Form → Tables → List (Taken Pair) → List ℕ → List ℕ
marked_by fm t [] map = map
marked_by fm t (p ∷ ps) map = marked_by fm t ps (lay (λ (c : Cell). 1) (writes fm t p) map)

-- the map of all positions of the kept areas
unfoldable pub map_of : Form → Tables → List (Taken Pair) → List ℕ
map_of fm t ps = marked_by fm t ps (replicate (total t.areas) 0)

-- how many positions of a map no pair writes
unfoldable pub unwritten_in : List ℕ → ℕ
unwritten_in [] = 0
unwritten_in (x ∷ xs) = pick (eqb x 0) 1 0 + unwritten_in xs

-- ------------------------------------------------------------------ of a module

-- the map of a module, by the ended reading; 1 where a map of fewer than 65,536 bytes is lent
unfoldable pub map_in : (room : ℕ) → List ℕ → Outcome (List ℕ)
map_in room text =
    pick (leb 65536 room) (and_then (read true roomy text) (λ w. fine (map_of w.parsed.form w.built.tables w.parsed.records.pairs))) (refused 1 0)

-- how many positions there are, and how many of them no pair writes
pub record Covered : Type 0 where
  pub positions : ℕ
  pub unwritten : ℕ

abbrev pub covered_by : Outcome (List ℕ) → Outcome Covered
covered_by (refused n p) = refused n p
covered_by (fine map) = fine (record { positions = length map; unwritten = unwritten_in map })

-- a refusal leaves a lent map as it was
abbrev pub map_after : Outcome (List ℕ) → List ℕ → List ℕ
map_after (refused n p) old = old
map_after (fine map) old = over map old

-- the contract: the counts, and the map over what the lent one held
pub record CoverMeets (text old : List ℕ) (answer : Outcome Covered) (new : List ℕ) : Type 0 where
  pub says : answer ≡ covered_by (map_in (length old) text)
  pub held : new ≡ map_after (map_in (length old) text) old
