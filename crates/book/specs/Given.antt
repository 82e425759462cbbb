-- Entries given to be written: a pool of bytes, and rows of five numbers: place and length of a name, places of values and masks, size of the pattern.
-- Refusal 1, 21 for a row that points out of the pool, and the order of the entries' numbers.
-- Assumes nothing.
use Rattle.std.specs.Prelude.{ℕ, zero, suc, min, ◌+◌, ◌*◌, Bool, true, false, ◌&&◌, List, [], ◌∷◌, get_or, length, leb, ltb}
use Rattle.format.specs.Lists.{pick}
use Rattle.format.specs.Outcome.{Outcome, fine, refused, and_then}
use Rattle.book.specs.Names.{order, by_order}
use Rattle.book.specs.Entries.{Entry, in_order_of}
use Rattle.book.specs.Contents.{part}
use Rattle.book.specs.Written.{fitted}

-- a number of the i-th row
abbrev pub field_at : List ℕ → ℕ → ℕ → ℕ
field_at rows i k = get_or rows (5 * i + k) 0

-- the i-th entry given
unfoldable pub entry_at : List ℕ → List ℕ → ℕ → Entry
entry_at pool rows i = record {
  name = part pool (field_at rows i 0) (field_at rows i 1);
  values = part pool (field_at rows i 2) (field_at rows i 4);
  masks = part pool (field_at rows i 3) (field_at rows i 4);
}

-- n entries as they were given, from the i-th on
unfoldable pub given : List ℕ → List ℕ → ℕ → ℕ → List Entry
given pool rows i zero = []
given pool rows i (suc n) = entry_at pool rows i ∷ given pool rows (suc i) n

-- the name, the values and the masks of the i-th row lie in the pool
unfoldable pub in_pool : List ℕ → List ℕ → ℕ → Bool
in_pool pool rows i =
    let end = length pool in
    leb (field_at rows i 0 + field_at rows i 1) end && (leb (field_at rows i 2 + field_at rows i 4) end && leb (field_at rows i 3 + field_at rows i 4) end)

-- how many of n rows, from the i-th on, stand before the first that points out of the pool
unfoldable pub pooled : List ℕ → List ℕ → ℕ → ℕ → ℕ
pooled pool rows i zero = 0
pooled pool rows i (suc n) = pick (in_pool pool rows i) (suc (pooled pool rows (suc i) n)) 0

-- n entries given, in order of their names: 21 at the first whose row points out of the pool or whose name an earlier one has
unfoldable pub arranged : List ℕ → List ℕ → ℕ → Outcome (List Entry)
arranged pool rows n = let m = pooled pool rows 0 n in and_then (in_order_of (given pool rows 0 m)) (λ es. pick (ltb m n) (refused 21 m) (fine es))

-- the most bytes of a book that is written: its length is a number of four bytes too
abbrev pub most_bytes : ℕ
most_bytes = 4294967295

-- n entries given as a book, where so many numbers and so many bytes are lent: 1 where there are fewer than n rows or room for fewer than n numbers, then 21, then 24
unfoldable pub packed : List ℕ → List ℕ → (n numbers room : ℕ) → Outcome (List ℕ)
packed pool rows n numbers room =
    let whole = and_then (arranged pool rows n) (fitted (min room most_bytes)) in
    pick (leb (5 * n) (length rows) && leb n numbers) whole (refused 1 0)

-- the number of the k-th entry put among the numbers of entries in order of names
unfoldable pub put_number : List ℕ → List ℕ → ℕ → List ℕ → List ℕ
put_number pool rows k [] = k ∷ []
put_number pool rows k (j ∷ js) =
    by_order (order (entry_at pool rows k).name (entry_at pool rows j).name) (k ∷ j ∷ js) (k ∷ j ∷ js) (j ∷ put_number pool rows k js)

-- the numbers of the first n entries given, in order of their names
unfoldable pub numbers_of : List ℕ → List ℕ → ℕ → List ℕ
numbers_of pool rows zero = []
numbers_of pool rows (suc n) = put_number pool rows n (numbers_of pool rows n)

-- one of the first n entries given has the name of the k-th
unfoldable pub seen : List ℕ → List ℕ → ℕ → ℕ → Bool
seen pool rows k zero = false
seen pool rows k (suc n) =
    let before = seen pool rows k n in by_order (order (entry_at pool rows k).name (entry_at pool rows n).name) before true before
