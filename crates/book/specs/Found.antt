-- Finding a name in a book: through the contents by halving, and by a search through all entries; refusals 23 and 24.
-- Assumes nothing.
use Rattle.std.specs.Prelude.{ℕ, zero, suc, ◌+◌, ◌/◌, List, [], ◌∷◌, drop, leb, ltb}
use Rattle.format.specs.Lists.{pick}
use Rattle.format.specs.Outcome.{Outcome, fine, refused, and_then}
use Rattle.book.specs.Names.{order, by_order}
use Rattle.book.specs.Entries.{Entry}
use Rattle.book.specs.Contents.{Row, number, part, row_of, rows, start}
use Rattle.book.specs.Opened.{name_of, check}

-- where a pattern stands, and how many positions it has
pub record Found : Type 0 where
  pub at : ℕ
  pub size : ℕ

unfoldable pub found_by : Row → Found
found_by r = record { at = r.at; size = r.size }

-- the i-th row of a book's contents
unfoldable pub row_at : List ℕ → ℕ → Row
row_at xs i = row_of (drop (start i) xs)

-- a name among the rows from low up to high, by halving, in at most k halvings; 23 where it is not there
unfoldable pub halve : List ℕ → List ℕ → ℕ → (low high : ℕ) → Outcome Found
halve xs w zero low high = refused 23 0
halve xs w (suc k) low high =
    let middle = (low + high) / 2 in
    let r = row_at xs middle in
    let before = halve xs w k low middle in
    let after = halve xs w k (suc middle) high in
    let here = by_order (order w (name_of xs r)) before (fine (found_by r)) after in
    pick (ltb low high) here (refused 23 0)

-- a name through the contents by halving
unfoldable pub find : List ℕ → List ℕ → Outcome Found
find xs w = let n = number xs 0 in halve xs w n 0 n

-- a name among rows, one by one
unfoldable pub among : List ℕ → List ℕ → List Row → Outcome Found
among xs w [] = refused 23 0
among xs w (r ∷ rs) = let later = among xs w rs in by_order (order w (name_of xs r)) later (fine (found_by r)) later

-- a name by a search through all entries
unfoldable pub search : List ℕ → List ℕ → Outcome Found
search xs w = among xs w (rows (number xs 0) (drop 4 xs))

-- a pattern
pub record Pattern : Type 0 where
  pub values : List ℕ
  pub masks : List ℕ

-- what stands where a pattern was found
unfoldable pub pattern_at : List ℕ → Found → Pattern
pattern_at xs f = record { values = part xs f.at f.size; masks = part xs (f.at + f.size) f.size }

-- the pattern of a name among entries
unfoldable pub lookup : List ℕ → List Entry → Outcome Pattern
lookup w [] = refused 23 0
lookup w (e ∷ es) =
    let later = lookup w es in
    by_order (order w e.name) later (fine (record { values = e.values; masks = e.masks })) later

-- where a pattern stands, if there is room for its positions; else 24
abbrev pub room_for : ℕ → Found → Outcome Found
room_for room f = pick (leb f.size room) (fine f) (refused 24 0)

-- where the pattern of a name stands: 23, then 24
unfoldable pub located : List ℕ → List ℕ → ℕ → Outcome Found
located xs w room = and_then (find xs w) (room_for room)

-- the same, with 21 and 22 of the book first
unfoldable pub opens_at : List ℕ → List ℕ → ℕ → Outcome Found
opens_at xs w room = and_then (check xs) (λ es. located xs w room)

-- a pattern into room for so many positions: 21 and 22 of the book first, then 23, then 24
unfoldable pub fetch : List ℕ → List ℕ → ℕ → Outcome Pattern
fetch xs w room = and_then (check xs) (λ es. and_then (find xs w) (λ f. pick (leb f.size room) (fine (pattern_at xs f)) (refused 24 0)))
