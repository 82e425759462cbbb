-- The tables of areas and symbols, which areas are kept, and refusals 5 to 9.
-- Assumes nothing.
use Rattle.std.specs.Prelude.{suc, zero, ℕ, ◌+◌, Bool, ◌&&◌, List, [], ◌++◌, ◌∷◌, length, take, leb, ltb}
use Rattle.std.proofs.Math.Option.{Option, none, some}
use Rattle.format.specs.Lists.{pick}
use Rattle.format.specs.Number.{Name}
use Rattle.format.specs.Entries.{Entry, area, ignored, symbol}
use Rattle.format.specs.Pairs.{Pair, placed, skipped}
use Rattle.format.specs.Mode.{bit}
use Rattle.format.specs.Outcome.{Outcome, fine, fold, refused}
use Rattle.format.specs.Records.{Taken}

-- an area as its line has it
pub record Area : Type 0 where
  pub name : Name
  pub size : ℕ
  pub flags : ℕ
  pub addr : Option ℕ

-- the area of a symbol is the last one before it, if there is one
pub record Symbol : Type 0 where
  pub name : Name
  pub ref : Bool
  pub value : ℕ
  pub area : Option ℕ

-- all areas and symbols, in the order of their lines
pub record Tables : Type 0 where
  pub areas : List Area
  pub symbols : List Symbol

-- a name that stands in a line at a place
unfoldable pub named : ℕ → Name → Name
named place n = record { at = place + n.at; length = n.length }

-- what is not given counts as 0
abbrev pub or_zero : Option ℕ → ℕ
or_zero none = 0
or_zero (some n) = n

-- flag 20 (hex) means code, 08 absolute, based at addr or else 0
unfoldable pub code : Area → Bool
code a = bit 5 a.flags

unfoldable pub absolute : Area → Bool
absolute a = bit 3 a.flags

unfoldable pub base : Area → ℕ
base a = or_zero a.addr

-- the last index below a count, if there is one
abbrev pub last_index : ℕ → Option ℕ
last_index zero = none
last_index (suc n) = some n

-- the area of a line at a place
unfoldable pub area_row : ℕ → Name → ℕ → ℕ → Option ℕ → Area
area_row place n z g a = record { name = named place n; size = z; flags = g; addr = a }

-- 5
unfoldable pub add_area : Tables → ℕ → Area → Outcome Tables
add_area t place a = pick (ltb (length t.areas) 64) (fine (record { areas = t.areas ++ a ∷ []; symbols = t.symbols })) (refused 5 place)

-- 6
unfoldable pub add_symbol : Tables → ℕ → Symbol → Outcome Tables
add_symbol t place s = pick (ltb (length t.symbols) 1024) (fine (record { areas = t.areas; symbols = t.symbols ++ s ∷ [] })) (refused 6 place)

-- what an entry adds to the tables; a symbol belongs to the last area so far
abbrev pub add_body_of : Tables → ℕ → Entry → Outcome Tables
add_body_of t place ignored = fine t
add_body_of t place (area n z g a) = add_area t place (area_row place n z g a)
add_body_of t place (symbol n r v) =
    add_symbol t place (record { name = named place n; ref = r; value = v; area = last_index (length t.areas) })

-- the same of a record
unfoldable pub add_entry : Tables → Taken Entry → Outcome Tables
add_entry t e = add_body_of t e.place e.body

-- 5 and 6, by text
unfoldable pub tables : List (Taken Entry) → Outcome Tables
tables es = fold add_entry (record { areas = []; symbols = [] }) es

-- 7 before 8; the count is of T and R pairs
abbrev pub fits_body : ℕ → ℕ → Pair → Outcome ℕ
fits_body n place skipped = fine n
fits_body n place (placed c r) =
    pick (leb (length c.bytes) 256) (pick (leb (length r.fragments) 64) (fine (suc n)) (refused 8 place)) (refused 7 place)

-- the same of a record
unfoldable pub fits : ℕ → Taken Pair → Outcome ℕ
fits n p = fits_body n p.place p.body

-- how many T and R pairs there are, if each fits
unfoldable pub counted : List (Taken Pair) → Outcome ℕ
counted ps = fold fits 0 ps

-- a code area with size above 0 is kept
unfoldable pub kept : Area → Bool
kept a = code a && leb 1 a.size

-- what an area takes of the images
unfoldable pub kept_size : Area → ℕ
kept_size a = pick (kept a) a.size 0

-- the sizes of the kept areas in all
unfoldable pub total : List Area → ℕ
total [] = 0
total (a ∷ rest) = kept_size a + total rest

-- how many areas are kept
unfoldable pub kept_count : List Area → ℕ
kept_count [] = 0
kept_count (a ∷ rest) = pick (kept a) 1 0 + kept_count rest

-- an area's rank among the kept ones, if it is kept; k are before the list
unfoldable pub rank : ℕ → List Area → ℕ → Option ℕ
rank k [] i = none
rank k (a ∷ rest) zero = pick (kept a) (some k) none
rank k (a ∷ rest) (suc i) = rank (k + pick (kept a) 1 0) rest i

-- where an area's image begins
unfoldable pub offset : List Area → ℕ → ℕ
offset areas i = total (take i areas)

-- 9
unfoldable pub room : Tables → Outcome ℕ
room t = pick (leb (total t.areas) 65536) (fine (total t.areas)) (refused 9 0)
