-- The line, and the pair of lines, at a place of the text: what a scan finds there, and what it does to a reading.
-- Assumes nothing.
use Rattle.std.specs.Prelude.{ℕ, ◌+◌, ◌-◌, Bool, not, List, take, drop, eqb}
use Rattle.format.specs.Lists.{pick}
use Rattle.format.specs.Bytes.{is_cr_or_lf}
use Rattle.format.specs.Number.{past}
use Rattle.format.specs.Lines.{Line, end_length, lines_of}
use Rattle.format.specs.Header.{Form}
use Rattle.format.specs.Entries.{Entry, entry_line}
use Rattle.format.specs.Pairs.{Pair, pair_lines}
use Rattle.format.specs.Records.{Step, stops, step_of, Records, Taken, records, pairs}

abbrev pub inner : ℕ → Bool
inner b = not (is_cr_or_lf b)

-- where the line at a place ends, and how long its full line end is
unfoldable pub line_end : List ℕ → ℕ → ℕ
line_end text p = past inner text p

unfoldable pub end_at : List ℕ → ℕ → ℕ
end_at text p = end_length (drop (line_end text p) text)

-- the place behind the line and its line end
unfoldable pub next_line : List ℕ → ℕ → ℕ
next_line text p = line_end text p + end_at text p

abbrev pub part_of : List ℕ → ℕ → ℕ → List ℕ
part_of text p q = take (q - p) (drop p text)

unfoldable pub line_at : List ℕ → ℕ → Line
line_at text p = record { bytes = part_of text p (line_end text p); ends = end_at text p }

-- what the line at a place does to group one
unfoldable pub entry_at : Bool → Form → List ℕ → ℕ → Step Entry
entry_at ended f text p =
    step_of ended p (line_end text p - p) (end_at text p) (next_line text p) (entry_line f (part_of text p (line_end text p)) 0)

-- what the two lines at a place do to group two
unfoldable pub pair_at : Bool → Form → List ℕ → ℕ → Step Pair
pair_at ended f text p =
    let r = next_line text p in
    pick (eqb (end_at text p) 0) stops
    (step_of ended p (line_end text r - p) (end_at text r) (next_line text r) (pair_lines f (line_at text p) (line_at text r)))

-- the records from a place on
unfoldable pub records_at : Bool → Form → List ℕ → ℕ → Records
records_at ended f text p = records ended f p (lines_of ended (drop p text))

unfoldable pub pairs_at : Bool → Form → List ℕ → ℕ → List (Taken Pair)
pairs_at ended f text p = pairs ended f p (lines_of ended (drop p text))
