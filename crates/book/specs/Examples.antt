-- Books computed: written, opened, found, and each refusal. One table, and one statement that what the definition gives is what is said.
-- Assumes nothing.
use Rattle.std.specs.Prelude.{ℕ, ◌≡◌, refl, List, [], ◌∷◌, ◌++◌, map, length, set, take}
use Rattle.format.specs.Lists.{pick, flat}
use Rattle.format.specs.Number.{little}
use Rattle.format.specs.Outcome.{Outcome, fine, refused}
use Rattle.format.specs.Text.{bytes_of}
use Rattle.book.specs.Names.{order}
use Rattle.book.specs.Entries.{Entry, body, insert, insert_all, in_order_of}
use Rattle.book.specs.Contents.{four, number, part, row_bytes, row_of, rows, row_for, rows_for, is_small, small_row, small_rows}
use Rattle.book.specs.Written.{book_of, numbers_fit_of, fitted, write}
use Rattle.book.specs.Given.{entry_at, given, in_pool, pooled, arranged, packed, put_number, numbers_of}
use Rattle.book.specs.Opened.{counted, in_file, name_of, entry_of, ordered, closed, ended, opened, check}
use Rattle.book.specs.Found.{Found, found_by, row_at, halve, find, among, search, Pattern, pattern_at, lookup, fetch}

-- what the definition gives, and what is said, each as a row of numbers
pub record Example : Type 0 where
  pub given : List ℕ
  pub said : List ℕ

abbrev example : List ℕ → List ℕ → Example
example g s = record { given = g; said = s }

-- 1 and what is told of the value; or 0, the refusal and its place
abbrev told : {A : Type 0} → (A → List ℕ) → Outcome A → List ℕ
told f (fine a) = 1 ∷ f a
told f (refused n p) = 0 ∷ n ∷ p ∷ []

-- an entry: the length of its name, the name, the size, values, masks
unfoldable entry_numbers : Entry → List ℕ
entry_numbers e = length e.name ∷ e.name ++ length e.values ∷ e.values ++ e.masks

unfoldable entries_numbers : List Entry → List ℕ
entries_numbers es = length es ∷ flat entry_numbers es

unfoldable written : Outcome (List ℕ) → List ℕ
written o = told (λ b. b) o

unfoldable entries : Outcome (List Entry) → List ℕ
entries o = told entries_numbers o

unfoldable found : Outcome Found → List ℕ
found o = told (λ f. f.at ∷ f.size ∷ []) o

unfoldable pattern : Outcome Pattern → List ℕ
pattern o = told (λ p. p.values ++ p.masks) o

-- three entries, two of one name
abbrev put : Entry
put = record { name = bytes_of "put"; values = 0x12 ∷ 0x34 ∷ []; masks = 0xFF ∷ 0x1F ∷ [] }

abbrev go : Entry
go = record { name = bytes_of "go"; values = 0x22 ∷ []; masks = 0xFF ∷ [] }

abbrev go2 : Entry
go2 = record { name = bytes_of "go"; values = []; masks = [] }

-- a name that begins with another, and the name of no bytes
abbrev gone : Entry
gone = record { name = bytes_of "gone"; values = []; masks = [] }

abbrev bare : Entry
bare = record { name = []; values = 0x22 ∷ []; masks = 0xFF ∷ [] }

-- the book of go and put
abbrev two : List ℕ
two =
    2 ∷ 0 ∷ 0 ∷ 0
    ∷ 36 ∷ 0 ∷ 0 ∷ 0 ∷ 2 ∷ 0 ∷ 0 ∷ 0 ∷ 38 ∷ 0 ∷ 0 ∷ 0 ∷ 1 ∷ 0 ∷ 0 ∷ 0
    ∷ 40 ∷ 0 ∷ 0 ∷ 0 ∷ 3 ∷ 0 ∷ 0 ∷ 0 ∷ 43 ∷ 0 ∷ 0 ∷ 0 ∷ 2 ∷ 0 ∷ 0 ∷ 0
    ∷ 0x67 ∷ 0x6F ∷ 0x22 ∷ 0xFF
    ∷ 0x70 ∷ 0x75 ∷ 0x74 ∷ 0x12 ∷ 0x34 ∷ 0xFF ∷ 0x1F ∷ []

-- a pool, and rows of put and go about it
abbrev pool : List ℕ
pool = bytes_of "goput" ++ 0x22 ∷ 0xFF ∷ 0x12 ∷ 0x34 ∷ 0xFF ∷ 0x1F ∷ []

abbrev put_row : List ℕ
put_row = 2 ∷ 3 ∷ 7 ∷ 9 ∷ 2 ∷ []

abbrev go_row : List ℕ
go_row = 0 ∷ 2 ∷ 5 ∷ 6 ∷ 1 ∷ []

-- its masks end one byte behind the pool
abbrev out_row : List ℕ
out_row = 2 ∷ 3 ∷ 7 ∷ 10 ∷ 2 ∷ []

pub table : List Example
unfolding flat little bytes_of order body insert insert_all in_order_of four number part row_bytes row_of rows row_for rows_for is_small small_row small_rows book_of numbers_fit_of fitted write counted in_file name_of entry_of ordered closed ended opened check found_by row_at halve find among search pattern_at lookup fetch entry_at given in_pool pooled arranged packed put_number numbers_of entry_numbers entries_numbers written entries found pattern
table =
    -- the empty book
    example (written (write [] 4)) (1 ∷ 0 ∷ 0 ∷ 0 ∷ 0 ∷ [])
    ∷ example (entries (check (0 ∷ 0 ∷ 0 ∷ 0 ∷ []))) (1 ∷ 0 ∷ [])
    ∷ example (found (find (0 ∷ 0 ∷ 0 ∷ 0 ∷ []) [])) (0 ∷ 23 ∷ 0 ∷ [])
    -- two entries, given in either order
    ∷ example (written (write (put ∷ go ∷ []) 47)) (1 ∷ two)
    ∷ example (written (write (go ∷ put ∷ []) 100)) (1 ∷ two)
    ∷ example (entries (check two)) (1 ∷ entries_numbers (go ∷ put ∷ []))
    ∷ example (found (find two (bytes_of "go"))) (1 ∷ 38 ∷ 1 ∷ [])
    ∷ example (found (find two (bytes_of "put"))) (1 ∷ 43 ∷ 2 ∷ [])
    ∷ example (found (search two (bytes_of "put"))) (1 ∷ 43 ∷ 2 ∷ [])
    ∷ example (pattern (fetch two (bytes_of "put") 2)) (1 ∷ 0x12 ∷ 0x34 ∷ 0xFF ∷ 0x1F ∷ [])
    -- a name stands before every longer one that begins with it; a name may have no byte, and a pattern no position
    ∷ example (entries (in_order_of (gone ∷ put ∷ bare ∷ go ∷ []))) (1 ∷ entries_numbers (bare ∷ go ∷ gone ∷ put ∷ []))
    ∷ example (found (find (book_of (bare ∷ go ∷ gone ∷ put ∷ [])) [])) (1 ∷ 68 ∷ 1 ∷ [])
    ∷ example (found (find (book_of (bare ∷ go ∷ gone ∷ put ∷ [])) (bytes_of "put"))) (1 ∷ 81 ∷ 2 ∷ [])
    -- writing, 21: the second of two entries of one name, counted from 0 as given
    ∷ example (written (write (go ∷ put ∷ go2 ∷ []) 0)) (0 ∷ 21 ∷ 2 ∷ [])
    ∷ example (written (write (go ∷ go ∷ []) 100)) (0 ∷ 21 ∷ 1 ∷ [])
    -- writing, 24: one byte too little room; a number over four bytes
    ∷ example (written (write (put ∷ go ∷ []) 46)) (0 ∷ 24 ∷ 0 ∷ [])
    ∷ example (pick (is_small 4294967295) 1 0 ∷ pick (is_small 4294967296) 1 0 ∷ []) (1 ∷ 0 ∷ [])
    -- writing from a pool; the numbers of the entries in order of names
    ∷ example (written (packed pool (put_row ++ go_row) 2 2 47)) (1 ∷ two)
    ∷ example (numbers_of pool (put_row ++ go_row) 2) (1 ∷ 0 ∷ [])
    ∷ example (numbers_of pool (go_row ++ put_row) 2) (0 ∷ 1 ∷ [])
    -- 1 first: too few rows, too little room for the numbers; 21 at a row out of the pool, at the first of such a row and a second name; then 24
    ∷ example (written (packed pool (go_row ++ go_row) 3 3 0)) (0 ∷ 1 ∷ 0 ∷ [])
    ∷ example (written (packed pool (go_row ++ go_row) 2 1 0)) (0 ∷ 1 ∷ 0 ∷ [])
    ∷ example (written (packed pool (go_row ++ out_row) 2 2 0)) (0 ∷ 21 ∷ 1 ∷ [])
    ∷ example (written (packed pool (go_row ++ go_row ++ out_row) 3 3 0)) (0 ∷ 21 ∷ 1 ∷ [])
    ∷ example (written (packed pool (go_row ++ out_row ++ go_row) 3 3 0)) (0 ∷ 21 ∷ 1 ∷ [])
    ∷ example (written (packed pool (put_row ++ go_row) 2 2 46)) (0 ∷ 24 ∷ 0 ∷ [])
    -- opening, 21 at 0: no room for the number of entries; more entries than the file has room for
    ∷ example (entries (check [])) (0 ∷ 21 ∷ 0 ∷ [])
    ∷ example (entries (check (0 ∷ 0 ∷ 0 ∷ []))) (0 ∷ 21 ∷ 0 ∷ [])
    ∷ example (entries (check (set two 0 3))) (0 ∷ 21 ∷ 0 ∷ [])
    ∷ example (entries (check (set two 3 1))) (0 ∷ 21 ∷ 0 ∷ [])
    -- opening, 21 at the row: a name or a pattern out of the file, names out of order, equal names
    ∷ example (entries (check (set two 5 1))) (0 ∷ 21 ∷ 4 ∷ [])
    ∷ example (entries (check (set two 32 3))) (0 ∷ 21 ∷ 20 ∷ [])
    ∷ example (entries (check (take 46 two))) (0 ∷ 21 ∷ 20 ∷ [])
    ∷ example (entries (check (set two 36 0x7A))) (0 ∷ 21 ∷ 20 ∷ [])
    ∷ example (entries (check (set (set two 20 36) 24 2))) (0 ∷ 21 ∷ 20 ∷ [])
    -- opening, 22 at the row: a gap before the name, an overlap of the name, a gap or an overlap before the pattern
    ∷ example (entries (check (set (set two 4 37) 8 1))) (0 ∷ 22 ∷ 4 ∷ [])
    ∷ example (entries (check (set two 4 37))) (0 ∷ 22 ∷ 4 ∷ [])
    ∷ example (entries (check (set (set two 20 41) 24 2))) (0 ∷ 22 ∷ 20 ∷ [])
    ∷ example (entries (check (set two 28 42))) (0 ∷ 22 ∷ 20 ∷ [])
    ∷ example (entries (check (set two 12 39))) (0 ∷ 22 ∷ 4 ∷ [])
    ∷ example (entries (check (set two 16 0))) (0 ∷ 22 ∷ 20 ∷ [])
    -- opening, 22 at the first byte left over
    ∷ example (entries (check (two ++ 0 ∷ []))) (0 ∷ 22 ∷ 47 ∷ [])
    ∷ example (entries (check (set two 32 1))) (0 ∷ 22 ∷ 45 ∷ [])
    ∷ example (entries (check (0 ∷ 0 ∷ 0 ∷ 0 ∷ 0 ∷ []))) (0 ∷ 22 ∷ 4 ∷ [])
    -- opening: a 21 of a later row comes before a 22 of an earlier one
    ∷ example (entries (check (set (set two 12 39) 36 0x7A))) (0 ∷ 21 ∷ 20 ∷ [])
    -- 23; 21 and 22 before it; 24 behind it
    ∷ example (found (find two (bytes_of "gone"))) (0 ∷ 23 ∷ 0 ∷ [])
    ∷ example (found (search two (bytes_of "gone"))) (0 ∷ 23 ∷ 0 ∷ [])
    ∷ example (pattern (fetch (two ++ 0 ∷ []) (bytes_of "gone") 0)) (0 ∷ 22 ∷ 47 ∷ [])
    ∷ example (pattern (fetch two (bytes_of "gone") 0)) (0 ∷ 23 ∷ 0 ∷ [])
    ∷ example (pattern (fetch two (bytes_of "put") 1)) (0 ∷ 24 ∷ 0 ∷ [])
    ∷ []

-- every example holds
pub examples : map (λ e. e.given) table ≡ map (λ e. e.said) table
unfolding table
examples = refl
