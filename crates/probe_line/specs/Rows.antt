-- The rows of numbers that stand for the definition's answers.
-- Assumes nothing.
use Rattle.std.specs.Prelude.{ℕ, ◌≡◌, Bool, true, false, List}
use Rattle.std.proofs.Math.Option.{Option, none, some}
use Rattle.std.proofs.lemmas.List.Edits.{sets}
use Rattle.format.specs.Got.{Got, is, isnt}
use Rattle.format.specs.Header as the
use Rattle.format.specs.Entries.{Entry, ignored, area, symbol}
use Rattle.format.specs.Pairs as pairs
use Rattle.laws.specs.Places.{line_end, end_at, next_line}
use Rattle.fragments.specs.Fragments.{Rows}
use Rattle.pair_line.specs.Pairs.{Sized, sized, counted, bytes_in, numbered, fragments_in}
use Rattle.probe_line.specs.declared.Row.{Row}

abbrev pub row_of : (place kind name length first second third fourth : ℕ) → Row
row_of p k n l a b c d = record { reason = 0; place = p; kind = k; name = n; length = l; first = a; second = b; third = c; fourth = d }

-- values alone
abbrev pub value_row : (place first second third : ℕ) → Row
value_row p a b c = row_of p 0 0 0 a b c 0

-- a halt: its reason and place
abbrev pub halt_row : (reason place : ℕ) → Row
halt_row r p = record { reason = r; place = p; kind = 0; name = 0; length = 0; first = 0; second = 0; third = 0; fourth = 0 }

unfoldable pub flag : Bool → ℕ
flag true = 1
flag false = 0

unfoldable pub number_row : Got ℕ → Row
number_row (is v n) = value_row n v 0 0
number_row (isnt r p) = halt_row r p

unfoldable pub place_row : Got Unit → Row
place_row (is u n) = value_row n 0 0 0
place_row (isnt r p) = halt_row r p

unfoldable pub head_row : Option the.Head → Row
head_row (some h) = value_row h.next h.form.radix (flag h.form.big) h.form.address_length
head_row none = halt_row 4 0

unfoldable pub given_addr : Option ℕ → ℕ
given_addr (some a) = 1
given_addr none = 0

unfoldable pub addr_value : Option ℕ → ℕ
addr_value (some a) = a
addr_value none = 0

-- kind 1 ignored, 2 an area, 3 a symbol
unfoldable pub taken_row : Entry → ℕ → Row
taken_row ignored u = row_of u 1 0 0 0 0 0 0
taken_row (area n z g x) u = row_of u 2 n.at n.length z g (given_addr x) (addr_value x)
taken_row (symbol n r v) u = row_of u 3 n.at n.length (flag r) v 0 0

unfoldable pub entry_row : Got Entry → Row
entry_row (is e u) = taken_row e u
entry_row (isnt r p) = halt_row r p

-- a number and a count
unfoldable pub sized_row : Got Sized → Row
sized_row (is (sized a n) u) = value_row u a n 0
sized_row (isnt r p) = halt_row r p

-- a T line, its bytes written as far as there is room
pub record ContentRow (m read : Got pairs.Content) (room : List ℕ) (r : Row) (left : List ℕ) : Type 0 where
  pub answered : r ≡ sized_row (counted m)
  pub stored : left ≡ sets room 0 (bytes_in read)

-- an R line, its fragments written as far as there is room
pub record RelocationRow (m : Got pairs.Relocation) (r : Row) (ms es xs ms' es' xs' : List ℕ) : Type 0 where
  pub answered : r ≡ sized_row (numbered m)
  pub stored : Rows (fragments_in m) ms es xs ms' es' xs'

-- the line at a place
pub record LineRow (text : List ℕ) (p : ℕ) (r : Row) : Type 0 where
  pub answered : r ≡ value_row (next_line text p) (line_end text p) (end_at text p) 0
